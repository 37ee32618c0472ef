-- Each step leaves less to do: uses of macros.
use Rattle.std.proofs.Common.{◌≡◌, ℕ, zero, suc, ◌+◌, ◌^◌, ◌≤◌, ◌&&◌, not, nat_lt, Bool, true, false, List, [], ◌∷◌, length, Option, Some, None, refl, arith, length-append}
use Rattle.std.proofs.lemmas.Bool.Decides.{nat_tests}
use Rattle.sv_source.specs.declared.token.Token.{Token}
use Rattle.sv_macro.specs.Tokens.{name_of}
use Rattle.sv_macro.specs.Macros.{placed_count, placed}
use Rattle.sv_macro.specs.Brackets.{is_parenthesis}
use Rattle.sv_macro.specs.Lists.{Taken, Place_in_list, at_end, closing, splitting, belonging, place_in, ended, with_item, with_split, taken, survey, fits}
use Rattle.sv_macro.specs.declared.brackets.Bracket.{Bracket}
use Rattle.sv_preproc.specs.States.{State, Step, spending_limit, broken, with_coming, next_any, behind_next}
use Rattle.sv_preproc.specs.Uses as uses
use Rattle.sv_macro.specs.declared.macros.Macro.{Macro}
use Rattle.sv_macro.specs.declared.coming.Coming.{Coming}
use Rattle.sv_macro.specs.declared.coming.Coming.TheVariants.{UseEnd}
use Rattle.sv_preproc.proofs.Weights.{Within, Waits, Falls, by_test, settled, behind_falls, count_placed}

pub delivered_falls : (count c w : ℕ) (s : State) (t : Token) → Within count c w s → Falls count c w (uses.delivered s t)
delivered_falls count c w s t i = by_test count c w (nat_lt spending_limit (s.spent + 1)) _ _ (λ _. tt) (λ e.
    let fits : s.spent + 1 ≤ 2 ^ 22 = grind (arith, nat_tests) in
    settled count c w s _ i (omega arith) fits i.loaded (omega arith) (omega arith))

-- a body is placed: its tokens are spent
body_falls : (count c w : ℕ) (s : State) (used : Token) (body : Option (List Coming)) (n : ℕ) → Waits count c w s → s.spent + n ≤ 2 ^ 22 →
    ((items : List Coming) → body ≡ Some items → length items ≤ n) → Falls count c w (uses.with_body s used body n)
body_falls count c w s used None n i fits counts = tt
body_falls count c w s used (Some items) n i fits counts = record {
  spent = fits;
  loaded = i.loaded;
  less = omega (arith, i.less, counts items refl, length-append items (UseEnd (name_of used) ∷ s.coming));
  uses = omega (arith, i.less, i.uses, counts items refl, length-append items (UseEnd (name_of used) ∷ s.coming));
  names = omega (arith, i.less, i.names, counts items refl, length-append items (UseEnd (name_of used) ∷ s.coming));
}

macro_falls : (count c w : ℕ) (s : State) (used : Token) (arguments : List (List Token)) (m : Option Macro) → Waits count c w s → Falls count c w (uses.with_macro s used arguments m)
macro_falls count c w s used arguments None i = tt
macro_falls count c w s used arguments (Some m) i = by_test count c w (nat_lt spending_limit (s.spent + placed_count arguments m.parts)) _ _ (λ _. tt) (λ e.
    let fits : s.spent + placed_count arguments m.parts ≤ 2 ^ 22 = grind (arith, nat_tests) in
    body_falls count c w s used (placed used.place arguments m.parts) _ i fits (λ items is. count_placed used.place arguments m.parts items is))

pub expanded_falls : (count c w : ℕ) (s : State) (used : Token) (arguments : List (List Token)) → Waits count c w s → Falls count c w (uses.expanded s used arguments)
expanded_falls count c w s used arguments i = macro_falls count c w s used arguments (s.macros (name_of used)) i

-- a use is counted
counted_falls : (count c w : ℕ) (s : State) (used : Token) (busy : Bool) (next : Step) → (s.spent + 1 ≤ 2 ^ 22 → Falls count c w next) → Falls count c w (uses.counted s used busy next)
counted_falls count c w s used busy next f = by_test count c w busy _ _ (λ _. tt) (λ _. by_test count c w (nat_lt spending_limit (s.spent + 1)) _ _ (λ _. tt) (λ e. f (let fits : s.spent + 1 ≤ 2 ^ 22 = grind (arith, nat_tests) in fits)))

spent_more : (count c w : ℕ) (s : State) → Within count c w s → s.spent + 1 ≤ 2 ^ 22 → Waits count c w (uses.once_more s)
spent_more count c w s i fits = record { spent = fits; loaded = i.loaded; less = omega (arith, i.less); uses = i.uses; names = i.names }

-- a token is taken behind newlines
pub next_within : (count c w : ℕ) (s : State) → Within count c w s → Within count c w (behind_next s)
next_within count c w s i = record { spent = i.spent; loaded = i.loaded; less = omega (arith, i.less, behind_falls s.coming); uses = i.uses; names = i.names }

-- what is behind a list is no more
behind_place : (item : Coming) (rest : List Coming) (p : Place_in_list) → length (taken [] rest).behind ≤ length rest → ((more : List Bracket) → length (taken more rest).behind ≤ length rest) →
    length (elim p as (λ _. Taken) [
      | at_end ↦ ended false (item ∷ rest)
      | closing ↦ ended true rest
      | splitting ↦ with_split (taken [] rest)
      | belonging more ↦ with_item item (taken more rest)
    ]).behind ≤ length (item ∷ rest)
behind_place item rest at_end split again = omega arith
behind_place item rest closing split again = omega arith
behind_place item rest splitting split again = omega (arith, split)
behind_place item rest (belonging more) split again = omega (arith, again more)

pub list_falls : (open_brackets : List Bracket) (coming : List Coming) → length (taken open_brackets coming).behind ≤ length coming
list_falls open_brackets [] = omega arith
list_falls open_brackets (item ∷ rest) = behind_place item rest (place_in open_brackets item) (list_falls [] rest) (λ more. list_falls more rest)

-- a list begins
begins_falls : (count c w : ℕ) (s : State) (used : Token) (arity : ℕ) → Waits count c w s → Falls count c w (uses.list_begins s used arity (taken [] s.coming).behind)
begins_falls count c w s used zero i =
    expanded_falls count c w (with_coming s (taken [] s.coming).behind) used [] (record { spent = i.spent; loaded = i.loaded; less = omega (arith, i.less, list_falls [] s.coming); uses = i.uses; names = i.names })
begins_falls count c w s used (suc n) i = i

closed_falls : (count c w : ℕ) (s : State) (used : Token) (cut : Option Token) (closed : Bool) (next : Step) → Falls count c w next →
    Falls count c w (elim cut as (λ _. Step) [ Some t ↦ broken s 208 t | None ↦ elim closed as (λ _. Step) [ true ↦ next | false ↦ broken s 208 used ] ])
closed_falls count c w s used (Some t) closed next f = tt
closed_falls count c w s used None true next f = f
closed_falls count c w s used None false next f = tt

fitting_falls : (count c w : ℕ) (s : State) (used : Token) (barred : Option Token) (wrong : Bool) (next : Step) → Falls count c w next →
    Falls count c w (elim barred as (λ _. Step) [ Some t ↦ broken s 201 t | None ↦ elim wrong as (λ _. Step) [ true ↦ broken s 203 used | false ↦ next ] ])
fitting_falls count c w s used (Some t) wrong next f = tt
fitting_falls count c w s used None true next f = tt
fitting_falls count c w s used None false next f = f

with_list_falls : (count c w : ℕ) (s : State) (used : Token) (busy : Bool) (arity : ℕ) → Within count c w s → Falls count c w (uses.with_list s used busy arity (taken [] s.coming))
with_list_falls count c w s used busy arity i =
    let list = survey (taken [] s.coming) in
    fitting_falls count c w s used list.barred (list.closed && not (fits arity list)) _ (counted_falls count c w s used busy _ (λ more.
    closed_falls count c w s used list.cut list.closed _ (begins_falls count c w (uses.once_more s) used arity (spent_more count c w s i more))))

from_falls : (count c w : ℕ) (s : State) (used : Token) (busy : Bool) (arity : ℕ) (next : Option Token) → Within count c w s → Falls count c w (uses.list_from s used busy arity next)
from_falls count c w s used busy arity None i = tt
from_falls count c w s used busy arity (Some t) i = by_test count c w (is_parenthesis t) _ _ (λ _. with_list_falls count c w s used busy arity i) (λ _. tt)

use_falls : (count c w : ℕ) (s : State) (used : Token) (busy : Bool) (arity : Option ℕ) → Within count c w s → Falls count c w (uses.use_of s used busy arity)
use_falls count c w s used busy None i = counted_falls count c w s used busy _ (λ more. expanded_falls count c w (uses.once_more s) used [] (spent_more count c w s i more))
use_falls count c w s used busy (Some arity) i = from_falls count c w (behind_next s) used busy arity (next_any s) (next_within count c w s i)

used_falls : (count c w : ℕ) (s : State) (used : Token) (m : Option Macro) → Within count c w s → Falls count c w (uses.used_macro s used m)
used_falls count c w s used None i = tt
used_falls count c w s used (Some m) i = use_falls count c w s used m.busy m.arity i

pub use_begins_falls : (count c w : ℕ) (s : State) (used : Token) → Within count c w s → Falls count c w (uses.use_begins s used)
use_begins_falls count c w s used i = used_falls count c w s used (s.macros (name_of used)) i
