-- What a run of the translator answers.
use Rattle.std.specs.Prelude.{◌≡◌, ◌<◌, ℕ, List, [], length, slice_index_or, Option, Some, None, Result, Ok, Err}
use Rattle.sv_source.specs.Faults.{Rose, NotRaised}
use Rattle.sv_source.specs.Loading.{Contents}
use Rattle.sv_source.specs.declared.text.Text.{Text}
use Rattle.sv_source.specs.declared.refusal.Refusal.{Refusal}
use Rattle.sv_source.specs.declared.token.Place.{Place}
use Rattle.sv_source.specs.declared.token.Token.{Token}
use Rattle.sv_preproc.specs.Runs.{expands, refused, Comes, LooksAt}
use Rattle.command_line.specs.declared.words.Asked.{Asked}
use Rattle.command_line.specs.Words.{asked}
use Rattle.sv2v_top.specs.declared.run.Stop.{Stop}
use Rattle.sv2v_top.specs.declared.run.Stop.TheVariants as S
use Rattle.sv2v_top.specs.Translation.{Translates, Breaks}

-- The files of a request expand to these tokens, of which the last is the end token, and their files have these names. Where
-- the contents of the files are told, the expansion is that of these contents; else that of what its searches find.
abbrev pub ExpandsTo : Asked → Option Contents → List Token → List (List ℕ) → Type 0
ExpandsTo request told tokens names = Comes request.settings told (expands tokens names)

-- the name of the file of a place
abbrev pub file_of : List (List ℕ) → Place → List ℕ
file_of names place = slice_index_or names place.file []

-- the files that are asked for have this translation
pub record IsTranslated (request : Asked) (told : Option Contents) (text : List ℕ) : Type 0 where
  pub tokens : List Token
  pub names : List (List ℕ)
  pub expansion : ExpandsTo request told tokens names
  pub translates : Translates request.top tokens text

-- why the files that are asked for are refused: their expansion breaks a rule, or their tokens have a break
pub data Cause (request : Asked) (told : Option Contents) (names : List (List ℕ)) (r : Refusal) : Type 0 where
  in_expansion : Comes request.settings told (refused r names) → Cause request told names r
  in_tokens : (tokens : List Token) → ExpandsTo request told tokens names → Breaks request.top tokens r → Cause request told names r

-- the refusal stands in the file with this name
pub record IsRefused (request : Asked) (told : Option Contents) (path : List ℕ) (r : Refusal) : Type 0 where
  pub names : List (List ℕ)
  pub is_path : path ≡ file_of names r.place
  -- its place is in a file that was loaded or looked for
  pub listed : r.place.file < length names
  pub cause : Cause request told names r

-- a load failed, and the count of faults rose; where the contents are told, the expansion looks for a file at this path
pub record IsFaulty (request : Asked) (told : Option Contents) (before now : ℕ) (path : List ℕ) : Type 0 where
  pub rose : Rose before now
  pub looks : (contents : Contents) → told ≡ Some contents → LooksAt request.settings contents path

-- what is answered for a request, by what the files tell, and by the count of their faults before and after
abbrev pub AskedGives : Asked → Option Contents → ℕ → ℕ → Result Text Stop → Type 0
AskedGives request told before now (Ok text) = IsTranslated request told text
AskedGives request told before now (Err S.Usage) = ⊥
AskedGives request told before now (Err S.Memory) = Unit {0}
AskedGives request told before now (Err (S.FileFault path)) = IsFaulty request told before now path
AskedGives request told before now (Err (S.Refused path refusal)) = IsRefused request told path refusal × NotRaised before now

-- what is answered for the tokens of an expansion
abbrev pub TokensGive : List ℕ → List Token → List (List ℕ) → Result Text Stop → Type 0
TokensGive top tokens names (Ok text) = Translates top tokens text
TokensGive top tokens names (Err S.Usage) = ⊥
TokensGive top tokens names (Err S.Memory) = Unit {0}
TokensGive top tokens names (Err (S.FileFault path)) = ⊥
TokensGive top tokens names (Err (S.Refused path refusal)) = (path ≡ file_of names refusal.place) × Breaks top tokens refusal

-- what is answered for words
pub record Answers (words : List (List ℕ)) (told : Option Contents) (before now : ℕ) (result : Result Text Stop) : Type 0 where
  pub request : Asked
  pub asks : asked words ≡ Some request
  pub gives : AskedGives request told before now result

abbrev pub RunGives : List (List ℕ) → Option Contents → ℕ → ℕ → Result Text Stop → Type 0
RunGives words told before now (Ok text) = Answers words told before now (Ok text)
RunGives words told before now (Err S.Usage) = asked words ≡ None
RunGives words told before now (Err S.Memory) = Unit {0}
RunGives words told before now (Err (S.FileFault path)) = Answers words told before now (Err (S.FileFault path))
RunGives words told before now (Err (S.Refused path refusal)) = Answers words told before now (Err (S.Refused path refusal))
