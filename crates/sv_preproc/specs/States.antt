-- How far an expansion has come, and what comes of what comes next.
use Rattle.std.specs.Prelude.{ℕ, ◌^◌, Bool, List, drop, Option}
use Rattle.sv_macro.specs.Lines.{behind_lines, raw_token, any_token, first_by, name_in}
use Rattle.sv_source.specs.declared.token.Place.{Place}
use Rattle.sv_source.specs.declared.token.Token.{Token}
use Rattle.sv_source.specs.declared.refusal.Refusal.{Refusal}
use Rattle.sv_macro.specs.Macros.{Macros}
use Rattle.sv_macro.specs.declared.coming.Coming.{Coming}
use Rattle.sv_preproc.specs.declared.state.OpenFile.{OpenFile}
use Rattle.sv_preproc.specs.declared.turn.Search.{Search}

-- How far an expansion has come: what comes, what each name stands for, the files that are open with their conditionals,
-- and what was delivered; and what was counted.
pub record State : Type 0 where
  -- what comes, of the file, or of the argument, and of the bodies in it that are open
  pub coming : List Coming
  -- what each name stands for
  pub macros : Macros
  -- the open files, the innermost first; whether an argument is expanded, and in how many bodies
  pub files : List OpenFile
  pub inside : Bool
  pub uses : ℕ
  -- how many files of the command line were looked for
  pub next : ℕ
  -- the paths of the files that were loaded, and how many bytes
  pub names : List (List ℕ)
  pub loaded : ℕ
  -- how many macros were used, tokens placed and tokens delivered
  pub spent : ℕ
  -- the place behind the last file of the command line
  pub ending : Place
  -- the tokens that were delivered
  pub delivered : List Token

-- what comes of what comes next
pub data Step : Type 0 where
  -- it has its effect
  goes : State → Step
  -- it is a token that has no meaning for the expansion
  gives : Token → State → Step
  -- it uses a macro, and the list behind this parenthesis is of its arguments
  takes : Token → State → Step
  -- the first of some files that isn't absent comes
  looks : Search → State → Step
  -- nothing comes
  done : State → Step
  -- a rule is broken; the files loaded so far
  breaks : Refusal → List (List ℕ) → Step

-- the most macros used, tokens placed and tokens delivered
abbrev pub spending_limit : ℕ
spending_limit = 2 ^ 22

-- the most bytes of a file, and of all files
abbrev pub file_limit : ℕ
file_limit = 2 ^ 24

abbrev pub files_limit : ℕ
files_limit = 2 ^ 26

-- the most files that are open at a time, with that of the command line
abbrev pub depth_limit : ℕ
depth_limit = 17

-- the rule is broken at the token
abbrev pub broken : State → ℕ → Token → Step
broken s rule t = breaks (record { rule = rule; place = t.place; word = t.text }) s.names

-- the rest goes on behind these
abbrev pub with_coming : State → List Coming → State
with_coming s coming = record s { coming = coming }

-- the token that comes behind newlines, and what is behind it
abbrev pub next_raw : State → Option Token
next_raw s = first_by raw_token (behind_lines s.coming)

abbrev pub next_any : State → Option Token
next_any s = first_by any_token (behind_lines s.coming)

abbrev pub behind_next : State → State
behind_next s = with_coming s (drop 1 (behind_lines s.coming))

abbrev pub next_name : State → Option (List ℕ)
next_name s = name_in (next_raw s)
