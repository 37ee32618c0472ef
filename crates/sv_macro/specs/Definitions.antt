-- The text of a macro's definition (IEEE 1800-2017 clause 22.5.1).
use Rattle.std.specs.Prelude.{ℕ, ◌+◌, ◌==◌, ◌&&◌, not, Bool, true, false, List, [], ◌∷◌, ◌++◌, drop, take, length, Option, Some, None, if◌then◌else◌, codes}
use Rattle.std.specs.Str.{bytes_eq}
use Rattle.sv_source.specs.declared.token.Kind.{Kind}
use Rattle.sv_source.specs.declared.token.Kind.TheVariants.{Cut, Directive}
use Rattle.sv_source.specs.declared.token.Token.{Token}
use Rattle.sv_macro.specs.Tokens.{is, is_name, is_line, is_continued, said_by}
use Rattle.sv_macro.specs.Macros.{parts_of}
use Rattle.sv_macro.specs.declared.words.Word.{Word}
use Rattle.sv_macro.specs.declared.words.Word.TheVariants.{Use}
use Rattle.sv_macro.specs.declared.coming.Coming.{Coming}
use Rattle.sv_macro.specs.declared.coming.Coming.TheVariants.{Raw, Kept, FileEnd, UseEnd}
use Rattle.sv_macro.specs.declared.definition.Formals.{Formals}
use Rattle.sv_macro.specs.declared.definition.Formals.TheVariants.{Listed, Departs, Ends}
use Rattle.sv_macro.specs.declared.definition.Defining.{Defining}
use Rattle.sv_macro.specs.declared.definition.Defining.TheVariants.{Defines, BreaksAt, BreaksList, IllFormed}

-- the logical line ends at a newline without a backslash, and at the end of the file
abbrev pub ends_line : Coming → Bool
ends_line (Raw t) = is_line t
ends_line (Kept t) = true
ends_line FileEnd = true
ends_line (UseEnd name) = true

abbrev pub of_line : Coming → List Token
of_line (Raw t) = if is_continued t then [] else t ∷ []
of_line (Kept t) = []
of_line FileEnd = []
of_line (UseEnd name) = []

abbrev pub goes_on : List Coming → Bool
goes_on [] = false
goes_on (item ∷ coming) = not (ends_line item)

-- the tokens up to the end of the logical line, and what comes from there on
abbrev pub line_of : List Coming → List Token
line_of [] = []
line_of (item ∷ coming) = elim (ends_line item) [ true ↦ [] | false ↦ of_line item ++ line_of coming ]

abbrev pub behind_line : List Coming → List Coming
behind_line [] = []
behind_line (item ∷ coming) = elim (ends_line item) [ true ↦ item ∷ coming | false ↦ behind_line coming ]

-- one more token belongs to the list of formals
abbrev pub one_longer : Formals → Formals
one_longer (Listed names taken) = Listed names (taken + 1)
one_longer (Departs t) = Departs t
one_longer Ends = Ends

abbrev pub with_formal : List ℕ → Formals → Formals
with_formal name (Listed names taken) = Listed (name ∷ names) (taken + 1)
with_formal name (Departs t) = Departs t
with_formal name Ends = Ends

-- behind the parenthesis or a comma a name is wanted, and behind a name a comma or the end
abbrev pub formals_from : Bool → List Token → Formals
formals_from wanted [] = Ends
formals_from true (t ∷ ts) = elim (is_name t) [ true ↦ with_formal t.text (formals_from false ts) | false ↦ Departs t ]
formals_from false (t ∷ ts) = elim (is t (codes ",")) [
  | true ↦ one_longer (formals_from true ts)
  | false ↦ elim (is t (codes ")")) [ true ↦ Listed [] 1 | false ↦ Departs t ]
]

-- the list of formals behind its parenthesis, which may be empty
abbrev pub formals_of : List Token → Formals
formals_of [] = Ends
formals_of (t ∷ ts) = elim (is t (codes ")")) [ true ↦ Listed [] 1 | false ↦ formals_from true (t ∷ ts) ]

-- the rule that a token of a body breaks: a comment that isn't closed, a directive
abbrev pub is_use : Word → Bool
is_use Use = true
is_use _ = false

abbrev pub barred_kind : Kind → Token → Option ℕ
barred_kind Cut t = Some 208
barred_kind Directive t = if is_use (said_by t) then None else Some 201
barred_kind _ t = None

abbrev pub barred : Token → Option ℕ
barred t = barred_kind t.kind t

-- the first of them
abbrev pub first_barred : List Token → Option Defining
first_barred [] = None
first_barred (t ∷ ts) = elim (barred t) [ None ↦ first_barred ts | Some rule ↦ Some (BreaksAt rule t) ]

-- a macro of this body, unless a token of it is barred
abbrev pub unless_barred : Option Defining → Defining → Defining
unless_barred None d = d
unless_barred (Some b) d = b

abbrev pub of_body : List ℕ → Option ℕ → List (List ℕ) → List Token → Defining
of_body name arity formals body =
    unless_barred (first_barred body) (Defines name (record { arity = arity; parts = parts_of formals body; busy = false }))

abbrev pub with_formals : List ℕ → List Token → Formals → Defining
with_formals name behind (Listed formals taken) = of_body name (Some (length formals)) formals (drop taken behind)
with_formals name behind (Departs t) = BreaksAt 203 t
with_formals name behind Ends = BreaksList

-- the token stands directly behind the other
abbrev pub touches : Token → Token → Bool
touches t u = (t.place.line == u.place.line) && (t.place.col + length t.text == u.place.col)

-- a token that begins with a parenthesis directly behind the name begins a list of formals: `(`, and not `(*` or `(*)`
abbrev pub begins_parenthesis : Token → Bool
begins_parenthesis t = bytes_eq (take 1 t.text) (codes "(")

abbrev pub has_formals : Token → List Token → Bool
has_formals name [] = false
has_formals name (t ∷ ts) = begins_parenthesis t && touches name t

abbrev pub with_list : Token → List Token → Defining
with_list name [] = IllFormed
with_list name (t ∷ ts) = if is t (codes "(") then with_formals name.text ts (formals_of ts) else BreaksAt 203 t

abbrev pub behind_name : Token → List Token → Defining
behind_name name ts = if has_formals name ts then with_list name ts else of_body name.text None [] ts

-- what the line behind `define says
abbrev pub defining : List Token → Defining
defining [] = IllFormed
defining (name ∷ ts) = if is_name name then behind_name name ts else IllFormed
