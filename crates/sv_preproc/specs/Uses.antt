-- Uses of macros (IEEE 1800-2017 clause 22.5.1). Of the rules that a use breaks the one with the least number counts.
use Rattle.std.specs.Prelude.{ℕ, zero, suc, ◌+◌, ◌&&◌, nat_lt, not, Bool, true, false, List, [], ◌∷◌, ◌++◌, Option, Some, None, codes}
use Rattle.sv_source.specs.declared.token.Token.{Token}
use Rattle.sv_macro.specs.Tokens.{name_of}
use Rattle.sv_macro.specs.Macros.{marked, placed_count, placed}
use Rattle.sv_macro.specs.Brackets.{is_parenthesis}
use Rattle.sv_macro.specs.Lists.{Taken, taken, survey, fits}
use Rattle.sv_macro.specs.declared.lists.Survey.{Survey}
use Rattle.sv_macro.specs.declared.macros.Macro.{Macro}
use Rattle.sv_macro.specs.declared.coming.Coming.{Coming}
use Rattle.sv_macro.specs.declared.coming.Coming.TheVariants.{UseEnd}
use Rattle.sv_preproc.specs.States.{State, Step, goes, takes, breaks, spending_limit, broken, with_coming, next_any, behind_next}

-- a token is delivered outside arguments
abbrev pub delivered : State → Token → Step
delivered s t = elim (nat_lt spending_limit (s.spent + 1)) [
  | true ↦ broken s 207 t
  | false ↦ goes (record s { delivered = s.delivered ++ t ∷ []; spent = s.spent + 1 })
]

-- the body of the macro that the token uses comes next, and then its end
abbrev pub with_body : State → Token → Option (List Coming) → ℕ → Step
with_body s used None count = breaks (record { rule = 209; place = used.place; word = codes "``" }) s.names
with_body s used (Some body) count =
    goes (record s {
      coming = body ++ UseEnd (name_of used) ∷ s.coming;
      macros = marked s.macros (name_of used) true;
      uses = s.uses + 1;
      spent = s.spent + count;
    })

abbrev pub with_macro : State → Token → List (List Token) → Option Macro → Step
with_macro s used arguments None = broken s 202 used
with_macro s used arguments (Some m) =
    elim (nat_lt spending_limit (s.spent + placed_count arguments m.parts)) [
      | true ↦ broken s 207 used
      | false ↦ with_body s used (placed used.place arguments m.parts) (placed_count arguments m.parts)
    ]

abbrev pub expanded : State → Token → List (List Token) → Step
expanded s used arguments = with_macro s used arguments (s.macros (name_of used))

-- a macro isn't used in its own expansion, and not too many are
abbrev pub counted : State → Token → Bool → Step → Step
counted s used busy next = elim busy [
  | true ↦ broken s 204 used
  | false ↦ elim (nat_lt spending_limit (s.spent + 1)) [ true ↦ broken s 207 used | false ↦ next ]
]

abbrev pub once_more : State → State
once_more s = record s { spent = s.spent + 1 }

-- a macro without a list of formals takes no list
abbrev pub without_list : State → Token → Bool → Step
without_list s used busy = counted s used busy (expanded (once_more s) used [])

-- the list is closed, and no comment in it is open
abbrev pub if_closed : State → Token → Survey → Step → Step
if_closed s used list next = elim list.cut [
  | Some t ↦ broken s 208 t
  | None ↦ elim list.closed [ true ↦ next | false ↦ broken s 208 used ]
]

-- a list without tokens is of no arguments
abbrev pub list_begins : State → Token → ℕ → List Coming → Step
list_begins s used zero behind = expanded (with_coming s behind) used []
list_begins s used (suc n) behind = takes used s

-- the list has no token that is barred, and as many arguments as the macro has formals, where it is closed
abbrev pub if_fitting : State → Token → ℕ → Survey → Step → Step
if_fitting s used arity list next = elim list.barred [
  | Some t ↦ broken s 201 t
  | None ↦ elim (list.closed && not (fits arity list)) [ true ↦ broken s 203 used | false ↦ next ]
]

abbrev pub with_list : State → Token → Bool → ℕ → Taken → Step
with_list s used busy arity k =
    if_fitting s used arity (survey k) (counted s used busy (if_closed s used (survey k) (list_begins (once_more s) used arity k.behind)))

-- a macro with a list of formals takes a list behind a parenthesis
abbrev pub list_from : State → Token → Bool → ℕ → Option Token → Step
list_from s used busy arity None = broken s 203 used
list_from s used busy arity (Some t) = elim (is_parenthesis t) [ true ↦ with_list s used busy arity (taken [] s.coming) | false ↦ broken s 203 used ]

abbrev pub use_of : State → Token → Bool → Option ℕ → Step
use_of s used busy None = without_list s used busy
use_of s used busy (Some arity) = list_from (behind_next s) used busy arity (next_any s)

-- a macro is used
abbrev pub used_macro : State → Token → Option Macro → Step
used_macro s used None = broken s 202 used
used_macro s used (Some m) = use_of s used m.busy m.arity

abbrev pub use_begins : State → Token → Step
use_begins s t = used_macro s t (s.macros (name_of t))
