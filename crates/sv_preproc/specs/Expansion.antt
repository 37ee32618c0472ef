-- What comes of what comes next (IEEE 1800-2017 clause 22).
use Rattle.std.specs.Prelude.{ℕ, ◌+◌, ◌-◌, ◌==◌, ◌&&◌, nat_lt, not, Bool, true, false, List, [], ◌∷◌, length, slice_get, Option, Some, None}
use Rattle.sv_source.specs.declared.token.Kind.{Kind}
use Rattle.sv_source.specs.declared.token.Place.{Place}
use Rattle.sv_source.specs.declared.token.Token.{Token}
use Rattle.sv_macro.specs.Tokens.{is_string, said_by}
use Rattle.sv_macro.specs.Macros.{defined, undefined, marked}
use Rattle.sv_macro.specs.declared.coming.Coming.{Coming}
use Rattle.sv_macro.specs.declared.coming.Coming.TheVariants.{Raw, Kept, FileEnd, UseEnd}
use Rattle.sv_preproc.specs.declared.state.Conditional.{Conditional}
use Rattle.sv_preproc.specs.declared.state.OpenFile.{OpenFile}
use Rattle.sv_source.specs.declared.token.Kind.TheVariants.{Cut, Directive, Line, Continued, Quote}
use Rattle.sv_macro.specs.Definitions.{line_of, behind_line, defining}
use Rattle.sv_macro.specs.declared.definition.Defining.{Defining}
use Rattle.sv_macro.specs.declared.definition.Defining.TheVariants.{Defines, BreaksAt, BreaksList, IllFormed}
use Rattle.sv_macro.specs.Including.{between_quotes, candidates}
use Rattle.sv_preproc.specs.declared.settings.Settings.{Settings}
use Rattle.sv_macro.specs.declared.words.Word.{Word}
use Rattle.sv_macro.specs.declared.words.Word.TheVariants as W
use Rattle.sv_preproc.specs.States.{State, Step, goes, gives, looks, done, depth_limit, broken, with_coming, next_raw, behind_next, next_name}
use Rattle.sv_macro.specs.declared.shapes.Shape.{Shape}
use Rattle.sv_macro.specs.declared.shapes.Shape.TheVariants.{AnyName, AnyWord, Number, Slash}
use Rattle.sv_macro.specs.Shapes.{behind_shapes}
use Rattle.sv_preproc.specs.Uses.{use_begins}
use Rattle.sv_preproc.specs.Branches.{skips, branches}

-- a definition
abbrev pub definition : State → Token → Defining → Step
definition s t (Defines name m) = goes (record s { macros = defined s.macros name m })
definition s t (BreaksAt rule token) = broken s rule token
definition s t BreaksList = broken s 203 t
definition s t IllFormed = broken s 201 t

abbrev pub define : State → Token → Step
define s t = definition (with_coming s (behind_line s.coming)) t (defining (line_of s.coming))

abbrev pub undefine_named : State → Token → Option (List ℕ) → Step
undefine_named s t None = broken s 201 t
undefine_named s t (Some name) = goes (record s { macros = undefined s.macros name })

abbrev pub undefine : State → Token → Step
undefine s t = undefine_named (behind_next s) t (next_name s)

-- a file is included; where files nest too deep it is looked for all the same
abbrev pub too_deep : List OpenFile → Token → Option Token
too_deep files t = elim (nat_lt (length files) depth_limit) [ true ↦ None | false ↦ Some t ]

abbrev pub include_in : Settings → State → Token → Token → List OpenFile → Step
include_in set s t string [] = broken s 201 t
include_in set s t string (file ∷ files) =
    looks (record {
      paths = candidates set.dirs file.path (between_quotes string.text);
      top = false;
      place = string.place;
      word = between_quotes string.text;
      deep = too_deep (file ∷ files) t;
    }) s

abbrev pub include_from : Settings → State → Token → Option Token → Step
include_from set s t None = broken s 201 t
include_from set s t (Some string) = elim (is_string string) [ true ↦ include_in set s t string s.files | false ↦ broken s 201 t ]

abbrev pub include : Settings → State → Token → Step
include set s t = include_from set (behind_next s) t (next_raw s)

-- directives that are dropped with tokens of their line, one of each shape
abbrev pub dropped : State → Token → Option (List Coming) → Step
dropped s t None = broken s 201 t
dropped s t (Some coming) = goes (with_coming s coming)

abbrev pub dropped_with : State → Token → List Shape → Step
dropped_with s t shapes = dropped s t (behind_shapes shapes s.coming)

abbrev pub net_type_shapes : List Shape
net_type_shapes = AnyWord ∷ []

abbrev pub timescale_shapes : List Shape
timescale_shapes = Number ∷ AnyName ∷ Slash ∷ Number ∷ AnyName ∷ []

-- a directive in a file
abbrev pub obeyed : Settings → State → Token → Word → Step
obeyed set s t (W.Branch word) = branches s t word
obeyed set s t W.Define = define s t
obeyed set s t W.Undef = undefine s t
obeyed set s t W.Include = include set s t
obeyed set s t W.Alone = goes s
obeyed set s t W.NetType = dropped_with s t net_type_shapes
obeyed set s t W.Timescale = dropped_with s t timescale_shapes
obeyed set s t W.Unsupported = broken s 201 t
obeyed set s t W.Use = use_begins s t

-- no directive stands in a body or an argument
abbrev pub in_file : State → Bool
in_file s = not s.inside && (s.uses == 0)

abbrev pub directive : Settings → State → Token → Word → Step
directive set s t W.Use = use_begins s t
directive set s t word = elim (in_file s) [ true ↦ obeyed set s t word | false ↦ broken s 201 t ]

-- in a branch that isn't taken only conditionals are looked at, and a comment that isn't closed
abbrev pub skipped_word : State → Token → Word → Step
skipped_word s t (W.Branch word) = branches s t word
skipped_word s t _ = goes s

abbrev pub skipped : State → Token → Kind → Step
skipped s t Directive = skipped_word s t (said_by t)
skipped s t Cut = broken s 208 t
skipped s t _ = goes s

-- anywhere else
abbrev pub taken : Settings → State → Token → Kind → Step
taken set s t Directive = directive set s t (said_by t)
taken set s t Cut = broken s 208 t
taken set s t Quote = broken s 201 t
taken set s t Line = goes s
taken set s t Continued = goes s
taken set s t _ = gives t s

abbrev pub raw : Settings → State → Token → Step
raw set s t = elim (skips s.files) [ true ↦ skipped s t t.kind | false ↦ taken set s t t.kind ]

-- a file ends: its conditionals are closed
abbrev pub file_ends_with : State → List OpenFile → List Conditional → Step
file_ends_with s files [] = goes (record s { files = files })
file_ends_with s files (c ∷ cs) = broken s 205 c.first

abbrev pub file_ends : State → List OpenFile → Step
file_ends s [] = goes s
file_ends s (file ∷ files) = file_ends_with s files file.conditionals

-- a body ends
abbrev pub body_ends : State → List ℕ → Step
body_ends s name = goes (record s { uses = s.uses - 1; macros = marked s.macros name false })

-- the next file of the command line
abbrev pub head_place : State → Place
head_place s = record { file = length s.names; line = 1; col = 1 }

abbrev pub next_file : State → Option (List ℕ) → Step
next_file s None = done s
next_file s (Some path) =
    looks (record { paths = path ∷ []; top = true; place = head_place s; word = path; deep = None }) (record s { next = s.next + 1 })

-- one step
abbrev pub step_at : Settings → State → List Coming → Step
step_at set s [] = next_file s (slice_get set.files s.next)
step_at set s (Raw t ∷ coming) = raw set (with_coming s coming) t
step_at set s (Kept t ∷ coming) = gives t (with_coming s coming)
step_at set s (FileEnd ∷ coming) = file_ends (with_coming s coming) s.files
step_at set s (UseEnd name ∷ coming) = body_ends (with_coming s coming) name

abbrev pub step : Settings → State → Step
step set s = step_at set s s.coming
