-- What words ask for: a run of a target text, or what isn't built yet.
use Rattle.std.specs.Prelude.{◌≡◌, ℕ, List, [], slice_index_or, Some, codes}
use Rattle.eval_words.specs.declared.words.EvalRun.{EvalRun}
use Rattle.eval_words.specs.declared.words.EvalWords.{EvalWords}
use Rattle.eval_words.specs.declared.words.EvalWords.TheVariants.{Generate, Run}
use Rattle.eval_words.specs.declared.words.Language.TheVariants.{Source, Target}
use Rattle.eval_words.specs.Words.{asked}
use Rattle.sv_source.specs.declared.refusal.Refusal.{Refusal}
use Rattle.sv_source.specs.declared.token.Place.{Place}

-- the first file of a run
abbrev pub first_path : EvalRun → List ℕ
first_path run = slice_index_or run.files 0 []

-- where a generated design is refused
abbrev pub generation_path : List ℕ
generation_path = codes "gen.sv"

-- the words ask for a run of a target text
pub record AsksText (words : List (List ℕ)) (run : EvalRun) : Type 0 where
  pub asks : asked words ≡ Some (Run run)
  pub is_text : run.language ≡ Target

-- What isn't built yet is asked for: a generated design, or a run of source files. Each is refused at the head of a file.
pub data Unbuilt (path : List ℕ) : EvalWords → Type 0 where
  generation : (n : ℕ) → path ≡ generation_path → Unbuilt path (Generate n)
  source : (run : EvalRun) → run.language ≡ Source → path ≡ first_path run → Unbuilt path (Run run)

pub record AsksUnbuilt (words : List (List ℕ)) (path : List ℕ) : Type 0 where
  pub request : EvalWords
  pub asks : asked words ≡ Some request
  pub unbuilt : Unbuilt path request

-- the head of a file
abbrev pub head : ℕ → Place
head file = record { file = file; line = 1; col = 1 }

abbrev pub refusal_at : ℕ → ℕ → List ℕ → Refusal
refusal_at rule file word = record { rule = rule; place = head file; word = word }

abbrev pub stage_refusal : Refusal
stage_refusal = refusal_at 999 0 (codes "stage")
