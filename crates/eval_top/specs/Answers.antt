-- What is answered for words, before anything is put on a sink.
use Rattle.std.specs.Prelude.{◌≡◌, ℕ, List, Option, Some, None, Result, Ok, Err}
use Rattle.sv_source.specs.Loading.{Contents}
use Rattle.sv_source.specs.Faults.{NotRaised}
use Rattle.sv_source.specs.declared.text.Text.{Text}
use Rattle.eval_words.specs.declared.words.EvalRun.{EvalRun}
use Rattle.eval_words.specs.declared.words.EvalWords.{EvalWords}
use Rattle.eval_words.specs.declared.words.EvalWords.TheVariants.{Generate, Run}
use Rattle.eval_words.specs.declared.words.Language.{Language}
use Rattle.eval_words.specs.declared.words.Language.TheVariants.{Source, Target}
use Rattle.eval_words.specs.Words.{asked}
use Rattle.eval_top.specs.declared.run.Stop.{Stop}
use Rattle.eval_top.specs.declared.run.Stop.TheVariants as S
use Rattle.eval_top.specs.Asking.{first_path, generation_path, stage_refusal}
use Rattle.eval_top.specs.Running.{HasLines, HasNoTrace, Cause, IsFaulty}

-- what is answered for a run of a text, by what the files tell, and by the count of their faults before and after
abbrev pub TextGives : EvalRun → Option Contents → ℕ → ℕ → Result Text Stop → Type 0
TextGives run told before now (Ok lines) = HasLines run told lines
TextGives run told before now (Err S.Usage) = ⊥
TextGives run told before now (Err S.Memory) = Unit {0}
TextGives run told before now (Err (S.FileFault path)) = IsFaulty run told before now path
TextGives run told before now (Err (S.Refused path r)) = Cause run told path r × NotRaised before now
TextGives run told before now (Err (S.Unsettled row name)) = HasNoTrace run told row name

-- what is answered for what isn't built, with the head of a file at this path
abbrev pub StageGives : List ℕ → Result Text Stop → Type 0
StageGives head (Ok lines) = ⊥
StageGives head (Err S.Usage) = ⊥
StageGives head (Err S.Memory) = Unit {0}
StageGives head (Err (S.FileFault path)) = ⊥
StageGives head (Err (S.Refused path r)) = (path ≡ head) × (r ≡ stage_refusal)
StageGives head (Err (S.Unsettled row name)) = ⊥

abbrev pub LanguageGives : Language → EvalRun → Option Contents → ℕ → ℕ → Result Text Stop → Type 0
LanguageGives Source run told before now result = StageGives (first_path run) result × NotRaised before now
LanguageGives Target run told before now result = TextGives run told before now result

abbrev pub AskedGives : EvalWords → Option Contents → ℕ → ℕ → Result Text Stop → Type 0
AskedGives (Generate n) told before now result = StageGives generation_path result × NotRaised before now
AskedGives (Run run) told before now result = LanguageGives run.language run told before now result

-- what is answered for words of the form
pub record Answers (words : List (List ℕ)) (told : Option Contents) (before now : ℕ) (result : Result Text Stop) : Type 0 where
  pub request : EvalWords
  pub asks : asked words ≡ Some request
  pub gives : AskedGives request told before now result

abbrev pub CallGives : List (List ℕ) → Option Contents → ℕ → ℕ → Result Text Stop → Type 0
CallGives words told before now (Ok lines) = Answers words told before now (Ok lines)
CallGives words told before now (Err S.Usage) = asked words ≡ None
CallGives words told before now (Err S.Memory) = Unit {0}
CallGives words told before now (Err (S.FileFault path)) = Answers words told before now (Err (S.FileFault path))
CallGives words told before now (Err (S.Refused path r)) = Answers words told before now (Err (S.Refused path r))
CallGives words told before now (Err (S.Unsettled row name)) = Answers words told before now (Err (S.Unsettled row name))
