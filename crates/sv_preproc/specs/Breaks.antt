-- The rules that are broken at a state, each for itself, and that a step answers the one with the least number.
use Rattle.std.specs.Prelude.{◌≡◌, ℕ, zero, suc, ◌+◌, ◌==◌, ◌≤◌, ◌&&◌, nat_lt, not, Bool, true, false, List, [], ◌∷◌, Option, Some, None, codes}
use Rattle.sv_source.specs.declared.token.Kind.{Kind}
use Rattle.sv_source.specs.declared.token.Kind.TheVariants.{Cut, Directive, Quote}
use Rattle.sv_source.specs.declared.token.Token.{Token}
use Rattle.sv_source.specs.declared.refusal.Refusal.{Refusal}
use Rattle.sv_macro.specs.Tokens.{is_string, name_of, said_by}
use Rattle.sv_macro.specs.Macros.{placed_count, placed}
use Rattle.sv_macro.specs.Brackets.{is_parenthesis}
use Rattle.sv_macro.specs.Lists.{Taken, taken, survey, fits, or_else}
use Rattle.sv_macro.specs.Definitions.{line_of, defining}
use Rattle.sv_macro.specs.Shapes.{behind_shapes}
use Rattle.sv_macro.specs.declared.lists.Survey.{Survey}
use Rattle.sv_macro.specs.declared.macros.Macro.{Macro}
use Rattle.sv_macro.specs.declared.coming.Coming.{Coming}
use Rattle.sv_macro.specs.declared.coming.Coming.TheVariants.{Raw, Kept, FileEnd, UseEnd}
use Rattle.sv_macro.specs.declared.definition.Defining.{Defining}
use Rattle.sv_macro.specs.declared.definition.Defining.TheVariants.{Defines, BreaksAt, BreaksList, IllFormed}
use Rattle.sv_macro.specs.declared.words.Condition.{Condition}
use Rattle.sv_macro.specs.declared.words.Condition.TheVariants.{Ifdef, Ifndef, Elsif, Else, Endif}
use Rattle.sv_macro.specs.declared.words.Word.{Word}
use Rattle.sv_macro.specs.declared.words.Word.TheVariants as W
use Rattle.sv_preproc.specs.declared.settings.Settings.{Settings}
use Rattle.sv_preproc.specs.declared.state.Conditional.{Conditional}
use Rattle.sv_preproc.specs.declared.state.OpenFile.{OpenFile}
use Rattle.sv_preproc.specs.States.{State, Step, goes, gives, takes, looks, done, breaks, spending_limit, with_coming, next_raw, next_any, next_name, behind_next}
use Rattle.sv_preproc.specs.Uses.{once_more}
use Rattle.sv_preproc.specs.Branches.{skips}
use Rattle.sv_preproc.specs.Expansion.{in_file, net_type_shapes, timescale_shapes, step}

-- where each rule is broken, if it is
pub record Rules : Type 0 where
  pub e201 : Option Token
  pub e202 : Option Token
  pub e203 : Option Token
  pub e204 : Option Token
  pub e205 : Option Token
  pub e207 : Option Token
  pub e208 : Option Token
  pub e209 : Option Token

abbrev pub none : Rules
none = record { e201 = None; e202 = None; e203 = None; e204 = None; e205 = None; e207 = None; e208 = None; e209 = None }

abbrev pub when : Bool → Token → Option Token
when b t = elim b [ true ↦ Some t | false ↦ None ]

-- so many more are too many
abbrev pub over : State → ℕ → Bool
over s n = nat_lt spending_limit (s.spent + n)

-- a body is placed: its pastes give one token each
abbrev pub unpasted : Token → Option (List Coming) → Option Token
unpasted used None = Some used
unpasted used (Some body) = None

abbrev pub body_rules : State → Token → List (List Token) → Option Macro → Rules
body_rules s used arguments None = record none { e202 = Some used }
body_rules s used arguments (Some m) = record none {
  e207 = when (over s (placed_count arguments m.parts)) used;
  e209 = unpasted used (placed used.place arguments m.parts);
}

-- a use: the macro isn't used in its own expansion, and not too many are
abbrev pub use_rules : State → Token → Bool → Rules → Rules
use_rules s used busy rules = record rules { e204 = when busy used; e207 = or_else (when (over s 1) used) rules.e207 }

-- its list: nothing in it is barred, it has as many arguments as the macro has formals where it is closed, and it is closed
abbrev pub list_rules : State → Token → Bool → ℕ → Survey → Rules → Rules
list_rules s used busy arity list rules = record (use_rules s used busy rules) {
  e201 = list.barred;
  e203 = when (list.closed && not (fits arity list)) used;
  e208 = or_else list.cut (when (not list.closed) used);
}

-- a list without tokens is of no arguments, and the body is placed at once, unless the list is broken
abbrev pub if_sound : Option Token → Bool → Rules → Rules
if_sound (Some t) closed rules = none
if_sound None true rules = rules
if_sound None false rules = none

abbrev pub begun_rules : State → Token → ℕ → Survey → Option Macro → Rules
begun_rules s used zero list m = if_sound list.cut list.closed (body_rules s used [] m)
begun_rules s used (suc n) list m = none

abbrev pub with_list_rules : State → Token → Bool → Option Macro → ℕ → Taken → Rules
with_list_rules s used busy m arity k = list_rules s used busy arity (survey k) (begun_rules (with_coming (once_more s) k.behind) used arity (survey k) m)

abbrev pub list_from_rules : State → Token → Bool → Option Macro → ℕ → Option Token → Rules
list_from_rules s used busy m arity None = use_rules s used busy (record none { e203 = Some used })
list_from_rules s used busy m arity (Some t) = elim (is_parenthesis t) [
  | true ↦ with_list_rules s used busy m arity (taken [] s.coming)
  | false ↦ use_rules s used busy (record none { e203 = Some used })
]

abbrev pub use_of_rules : State → Token → Bool → Option Macro → Option ℕ → Rules
use_of_rules s used busy m None = use_rules s used busy (body_rules (once_more s) used [] m)
use_of_rules s used busy m (Some arity) = list_from_rules (behind_next s) used busy m arity (next_any s)

abbrev pub used_rules : State → Token → Option Macro → Rules
used_rules s used None = record none { e202 = Some used }
used_rules s used (Some m) = use_of_rules s used m.busy (Some m) m.arity

-- conditionals
abbrev pub unnamed : Token → Option (List ℕ) → Rules → Rules
unnamed t None rules = record rules { e201 = Some t }
unnamed t (Some name) rules = rules

abbrev pub unbalanced : Token → List Conditional → Bool → Rules
unbalanced t [] goes_on = record none { e205 = Some t }
unbalanced t (c ∷ cs) goes_on = record none { e205 = when (goes_on && c.last) t }

abbrev pub branch_rules : State → OpenFile → Token → Condition → Rules
branch_rules s file t Ifdef = unnamed t (next_name s) none
branch_rules s file t Ifndef = unnamed t (next_name s) none
branch_rules s file t Elsif = unnamed t (next_name s) (unbalanced t file.conditionals true)
branch_rules s file t Else = unbalanced t file.conditionals true
branch_rules s file t Endif = unbalanced t file.conditionals false

abbrev pub branches_rules : State → List OpenFile → Token → Condition → Rules
branches_rules s [] t word = record none { e201 = Some t }
branches_rules s (file ∷ files) t word = branch_rules s file t word

-- directives
abbrev pub by_number : ℕ → Token → Rules
by_number rule t = elim (rule == 201) [
  | true ↦ record none { e201 = Some t }
  | false ↦ elim (rule == 203) [ true ↦ record none { e203 = Some t } | false ↦ record none { e208 = Some t } ]
]

abbrev pub definition_rules : Token → Defining → Rules
definition_rules t (Defines name m) = none
definition_rules t (BreaksAt rule u) = by_number rule u
definition_rules t BreaksList = record none { e203 = Some t }
definition_rules t IllFormed = record none { e201 = Some t }

abbrev pub include_rules : Token → Option Token → List OpenFile → Rules
include_rules t None files = record none { e201 = Some t }
include_rules t (Some string) [] = record none { e201 = Some t }
include_rules t (Some string) (file ∷ files) = record none { e201 = when (not (is_string string)) t }

abbrev pub dropped_rules : Token → Option (List Coming) → Rules
dropped_rules t None = record none { e201 = Some t }
dropped_rules t (Some rest) = none

abbrev pub obeyed_rules : State → Token → Word → Rules
obeyed_rules s t (W.Branch word) = branches_rules s s.files t word
obeyed_rules s t W.Define = definition_rules t (defining (line_of s.coming))
obeyed_rules s t W.Undef = unnamed t (next_name s) none
obeyed_rules s t W.Include = include_rules t (next_raw s) s.files
obeyed_rules s t W.Alone = none
obeyed_rules s t W.NetType = dropped_rules t (behind_shapes net_type_shapes s.coming)
obeyed_rules s t W.Timescale = dropped_rules t (behind_shapes timescale_shapes s.coming)
obeyed_rules s t W.Unsupported = record none { e201 = Some t }
obeyed_rules s t W.Use = used_rules s t (s.macros (name_of t))

abbrev pub directive_rules : State → Token → Word → Rules
directive_rules s t W.Use = used_rules s t (s.macros (name_of t))
directive_rules s t word = elim (in_file s) [ true ↦ obeyed_rules s t word | false ↦ record none { e201 = Some t } ]

abbrev pub skipped_word_rules : State → Token → Word → Rules
skipped_word_rules s t (W.Branch word) = branches_rules s s.files t word
skipped_word_rules s t _ = none

-- tokens
abbrev pub skipped_rules : State → Token → Kind → Rules
skipped_rules s t Directive = skipped_word_rules s t (said_by t)
skipped_rules s t Cut = record none { e208 = Some t }
skipped_rules s t _ = none

abbrev pub token_rules : State → Token → Kind → Rules
token_rules s t Directive = directive_rules s t (said_by t)
token_rules s t Cut = record none { e208 = Some t }
token_rules s t Quote = record none { e201 = Some t }
token_rules s t _ = none

abbrev pub raw_rules : State → Token → Rules
raw_rules s t = elim (skips s.files) [ true ↦ skipped_rules s t t.kind | false ↦ token_rules s t t.kind ]

abbrev pub first_open : List Conditional → Option Token
first_open [] = None
first_open (c ∷ cs) = Some c.first

abbrev pub file_rules : List OpenFile → Rules
file_rules [] = none
file_rules (file ∷ files) = record none { e205 = first_open file.conditionals }

abbrev pub rules_at : State → List Coming → Rules
rules_at s [] = none
rules_at s (Raw t ∷ coming) = raw_rules (with_coming s coming) t
rules_at s (Kept t ∷ coming) = none
rules_at s (FileEnd ∷ coming) = file_rules s.files
rules_at s (UseEnd name ∷ coming) = none

-- the rules that are broken at a state by what comes next
abbrev pub rules : State → Rules
rules s = rules_at s s.coming

abbrev pub refusal_at : ℕ → Token → Refusal
refusal_at rule t = record { rule = rule; place = t.place; word = t.text }

abbrev pub paste_at : Token → Refusal
paste_at t = record { rule = 209; place = t.place; word = codes "``" }

-- a rule is broken at a state: one case for each
pub data Breaks (s : State) : Refusal → Type 0 where
  directive : (t : Token) → (rules s).e201 ≡ Some t → Breaks s (refusal_at 201 t)
  undefined : (t : Token) → (rules s).e202 ≡ Some t → Breaks s (refusal_at 202 t)
  number : (t : Token) → (rules s).e203 ≡ Some t → Breaks s (refusal_at 203 t)
  own : (t : Token) → (rules s).e204 ≡ Some t → Breaks s (refusal_at 204 t)
  balance : (t : Token) → (rules s).e205 ≡ Some t → Breaks s (refusal_at 205 t)
  limit : (t : Token) → (rules s).e207 ≡ Some t → Breaks s (refusal_at 207 t)
  closed : (t : Token) → (rules s).e208 ≡ Some t → Breaks s (refusal_at 208 t)
  paste : (t : Token) → (rules s).e209 ≡ Some t → Breaks s (paste_at t)

-- the refusal is the least that is broken at the state
pub record IsLeast (s : State) (r : Refusal) : Type 0 where
  pub broken : Breaks s r
  pub least : (other : Refusal) → Breaks s other → r.rule ≤ other.rule
  pub only : (other : Refusal) → Breaks s other → other.rule ≡ r.rule → other ≡ r

-- a step that breaks a rule breaks the least that is broken at the state, and where a step breaks none none is broken
abbrev pub Answered : State → Step → Type 0
Answered s (goes t) = (r : Refusal) → Breaks s r → ⊥
Answered s (gives u t) = (r : Refusal) → Breaks s r → ⊥
Answered s (takes u t) = (r : Refusal) → Breaks s r → ⊥
Answered s (looks search t) = (r : Refusal) → Breaks s r → ⊥
Answered s (done t) = (r : Refusal) → Breaks s r → ⊥
Answered s (breaks r names) = IsLeast s r

abbrev pub LeastIsAnswered : Type 0
LeastIsAnswered = (set : Settings) (s : State) → Answered s (step set s)
