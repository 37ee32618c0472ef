-- The turns of walks over values and items.
use Rattle.std.proofs.Common.{◌≡◌, ◌<◌, ◌+◌, ℕ, Bool, true, false, max, List, [], ◌∷◌, ◌++◌, drop, length, get_or, map, Option, Some, None, refl, sym, ap, ◌∙◌, subst}
use Rattle.std.specs.Prelude.{Result, Ok, Err, Vec, nat_lt, ◌||◌}
use Rattle.std.specs.declared.alloc.Global.{Global}
use Rattle.std.proofs.lemmas.List.{at_drop_more, map-append}
use Rattle.sv_types.specs.Meanings.{most}
use Rattle.expr_type.specs.declared.halt.Halt.{Halt}
use Rattle.expr_type.specs.declared.operand.Valued.{Valued}
use Rattle.expr_type.specs.Answers.{Gives}
use Rattle.expr_type.specs.Names.{Context}
use Rattle.expr_type.specs.Operands.{width}
use Rattle.expr_type.specs.Statements as D
use Rattle.expr_type.specs.Typings.{Checked, all_of}
use Rattle.stmt_types.specs.declared.cases.CaseFound.{CaseFound}
use Rattle.stmt_types.specs.declared.cases.CaseItem.{CaseItem}
use Rattle.stmt_types.specs.Lists.{Follows, all_meant, as_meant, listed}
use Rattle.stmt_types.specs.Cases.{and_wide, first_in, first_operator, item_of, item_whole, or_first, or_wide, wide_of, wides}
use Rattle.stmt_types.proofs.InTurn.{follow-gives}
use Rattle.stmt_types.proofs.Wides.{wide-max}

abbrev is_over : List Valued → Bool
is_over vs = nat_lt 128 (most (map width vs))

over-first : (v : Valued) (vs : List Valued) → is_over (v ∷ vs) ≡ (nat_lt 128 (width v) || is_over vs)
over-first v vs = wide-max (width v) (most (map width vs))

over-at : (vs : List Valued) (i : ℕ) (v : Valued) → i < length vs → v ≡ get_or vs i v → is_over (drop i vs) ≡ (nat_lt 128 (width v) || is_over (drop (i + 1) vs))
over-at vs i v within is =
    at_drop_more is_over vs i v within ∙ ap (λ (u : Valued). is_over (u ∷ drop (i + 1) vs)) (sym is) ∙ over-first v (drop (i + 1) vs)

-- a value that is wide ends the walk, and another one goes on
pub wide-here : (vs : List Valued) (i : ℕ) (v : Valued) → i < length vs → v ≡ get_or vs i v → nat_lt 128 (width v) ≡ true → is_over (drop i vs) ≡ is_over vs → true ≡ is_over vs
wide-here vs i v within is h e = sym (over-at vs i v within is ∙ ap (λ (b : Bool). b || is_over (drop (i + 1) vs)) h) ∙ e

pub wide-on : (vs : List Valued) (i : ℕ) (v : Valued) → i < length vs → v ≡ get_or vs i v → nat_lt 128 (width v) ≡ false → is_over (drop i vs) ≡ is_over vs → is_over (drop (i + 1) vs) ≡ is_over vs
wide-on vs i v within is h e = sym (over-at vs i v within is ∙ ap (λ (b : Bool). b || is_over (drop (i + 1) vs)) h) ∙ e

-- items
wides-at : (cs : List CaseFound) (i : ℕ) (c : CaseFound) → i < length cs → c ≡ get_or cs i c → wides (drop i cs) ≡ and_wide (wide_of (listed c.values)) (wides (drop (i + 1) cs))
wides-at cs i c within is = at_drop_more wides cs i c within ∙ ap (λ (d : CaseFound). wides (d ∷ drop (i + 1) cs)) (sym is)

or-twice : (a b : Bool) (o : Option Bool) → or_wide (a || b) o ≡ or_wide a (or_wide b o)
or-twice a b None = refl
or-twice true b (Some c) = refl
or-twice false b (Some c) = refl

or-none : (a : Bool) → or_wide a None ≡ None
or-none a = refl

pub items-stop : (cs : List CaseFound) (i : ℕ) (c : CaseFound) (wide : Bool) → i < length cs → c ≡ get_or cs i c → None ≡ wide_of (listed c.values) → or_wide wide (wides (drop i cs)) ≡ wides cs
    → None ≡ wides cs
items-stop cs i c wide within is h e = sym (ap (or_wide wide) (wides-at cs i c within is ∙ ap (λ (o : Option Bool). and_wide o (wides (drop (i + 1) cs))) (sym h))) ∙ e

pub items-on : (cs : List CaseFound) (i : ℕ) (c : CaseFound) (wide here : Bool) → i < length cs → c ≡ get_or cs i c → Some here ≡ wide_of (listed c.values) → or_wide wide (wides (drop i cs)) ≡ wides cs
    → or_wide (wide || here) (wides (drop (i + 1) cs)) ≡ wides cs
items-on cs i c wide here within is h e =
    or-twice wide here (wides (drop (i + 1) cs))
    ∙ sym (ap (or_wide wide) (wides-at cs i c within is ∙ ap (λ (o : Option Bool). and_wide o (wides (drop (i + 1) cs))) (sym h))) ∙ e

-- the first operator in some values
first-at : (vs : List Valued) (i : ℕ) (v : Valued) → i < length vs → v ≡ get_or vs i v → first_in (drop i vs) ≡ or_first (first_operator v.arithmetic) (first_in (drop (i + 1) vs))
first-at vs i v within is = at_drop_more first_in vs i v within ∙ ap (λ (u : Valued). first_in (u ∷ drop (i + 1) vs)) (sym is)

pub first-on : (vs : List Valued) (i : ℕ) (v : Valued) → i < length vs → v ≡ get_or vs i v → None ≡ first_operator v.arithmetic → first_in (drop i vs) ≡ first_in vs → first_in (drop (i + 1) vs) ≡ first_in vs
first-on vs i v within is h e = sym (first-at vs i v within is ∙ ap (λ (o : Option ℕ). or_first o (first_in (drop (i + 1) vs))) (sym h)) ∙ e

pub first-here : (vs : List Valued) (i : ℕ) (v : Valued) (at : ℕ) → i < length vs → v ≡ get_or vs i v → Some at ≡ first_operator v.arithmetic → first_in (drop i vs) ≡ first_in vs → Some at ≡ first_in vs
first-here vs i v at within is h e = sym (first-at vs i v within is ∙ ap (λ (o : Option ℕ). or_first o (first_in (drop (i + 1) vs))) (sym h)) ∙ e

pub ruleset turns = (wide-here, wide-on, items-stop, items-on, first-on, first-here)

-- one item more
pub item-turn : (k : Context) (w : ℕ) (cs : List CaseFound) (c : CaseFound) (made : Result (Vec CaseItem Global) Halt) (next : Result CaseItem Halt) (r : Result (Vec CaseItem Global) Halt)
    → Follows made next r → Gives (all_meant item_of made) (all_of (map (item_whole k w) cs)) → Gives (as_meant item_of next) (item_whole k w c)
    → Gives (all_meant item_of r) (all_of (map (item_whole k w) (cs ++ c ∷ [])))
item-turn k w cs c made next r s p q =
    subst (λ (xs : List (Checked D.CaseItem)). Gives (all_meant item_of r) (all_of xs)) (sym (map-append (item_whole k w) cs (c ∷ [])))
    (follow-gives item_of (map (item_whole k w) cs) (item_whole k w c) made next r s p q)
