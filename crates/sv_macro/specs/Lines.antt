-- What comes next, past newlines.
use Rattle.std.specs.Prelude.{ℕ, ◌||◌, Bool, true, false, List, [], ◌∷◌, Option, Some, None, if◌then◌else◌}
use Rattle.sv_source.specs.declared.token.Token.{Token}
use Rattle.sv_macro.specs.Tokens.{is_name, is_line, is_continued}
use Rattle.sv_macro.specs.declared.coming.Coming.{Coming}
use Rattle.sv_macro.specs.declared.coming.Coming.TheVariants.{Raw, Kept, FileEnd, UseEnd}

-- a newline, behind a backslash or not
abbrev pub is_newline : Coming → Bool
is_newline (Raw t) = is_line t || is_continued t
is_newline (Kept t) = false
is_newline FileEnd = false
is_newline (UseEnd name) = false

abbrev pub begins_newline : List Coming → Bool
begins_newline [] = false
begins_newline (item ∷ coming) = is_newline item

-- what comes behind newlines
abbrev pub behind_lines : List Coming → List Coming
behind_lines [] = []
behind_lines (item ∷ coming) = elim (is_newline item) [ true ↦ behind_lines coming | false ↦ item ∷ coming ]

-- a token of a file
abbrev pub raw_token : Coming → Option Token
raw_token (Raw t) = Some t
raw_token (Kept t) = None
raw_token FileEnd = None
raw_token (UseEnd name) = None

-- a token of any kind
abbrev pub any_token : Coming → Option Token
any_token (Raw t) = Some t
any_token (Kept t) = Some t
any_token FileEnd = None
any_token (UseEnd name) = None

abbrev pub first_by : (Coming → Option Token) → List Coming → Option Token
first_by token [] = None
first_by token (item ∷ coming) = token item

-- the name, if that token is one
abbrev pub name_in : Option Token → Option (List ℕ)
name_in None = None
name_in (Some t) = if is_name t then Some t.text else None
