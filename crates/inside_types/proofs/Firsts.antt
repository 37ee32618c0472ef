-- The first of the operators that are too wide.
use Rattle.std.proofs.Common.{◌≡◌, ◌≤◌, ◌<◌, ℕ, Bool, true, false, cond, max, map, List, [], ◌∷◌, ◌++◌, Option, Some, None, refl, sym, ap, ◌∙◌, arith}
use Rattle.std.specs.Prelude.{nat_lt, slice_get, flat_map}
use Rattle.std.proofs.lemmas.Bool.Decides.{nat_tests}
use Rattle.expr_type.specs.declared.operand.Valued.{Valued}
use Rattle.expr_type.specs.Operands.{too_wide, width}
use Rattle.expr_type.specs.Operators as O
use Rattle.expr_type.specs.Operators.{over}
use Rattle.inside_types.specs.declared.alternatives.Alternative.{Alternative}
use Rattle.inside_types.specs.declared.alternatives.Alternative.TheVariants.{Only, Between}
use Rattle.inside_types.specs.Alternatives.{alternative, first_of, first_wide_among, or_first, wide_in}
use Rattle.inside_types.specs.Insides.{wide_inside}
use Rattle.sv_types.specs.Meanings.{most}

pub narrow-first : (w : ℕ) (ats : List ℕ) → w ≤ 128 → first_of (too_wide w ats) ≡ None
narrow-first w [] h = refl
narrow-first w (t ∷ ts) h = by (nat_lt 128 w) (grind (arith, nat_tests))
  where
    by : (b : Bool) → b ≡ false → first_of (cond b (t ∷ ts) []) ≡ None
    by true e = cc
    by false e = refl

pub wide-first : (w : ℕ) (ats : List ℕ) → 128 < w → first_of (too_wide w ats) ≡ slice_get ats 0
wide-first w [] h = refl
wide-first w (t ∷ ts) h = by (nat_lt 128 w) (grind (arith, nat_tests))
  where
    by : (b : Bool) → b ≡ true → first_of (cond b (t ∷ ts) []) ≡ Some t
    by true e = refl
    by false e = cc

pub ruleset wides = (narrow-first, wide-first)

pub over-none : (at w : ℕ) → w ≤ 128 → first_of (over at w) ≡ None
over-none at w h = by (nat_lt 128 w) (grind (arith, nat_tests))
  where
    by : (b : Bool) → b ≡ false → first_of (cond b (at ∷ []) []) ≡ None
    by true e = cc
    by false e = refl

pub over-some : (at w : ℕ) → 128 < w → first_of (over at w) ≡ Some at
over-some at w h = by (nat_lt 128 w) (grind (arith, nat_tests))
  where
    by : (b : Bool) → b ≡ true → first_of (cond b (at ∷ []) []) ≡ Some at
    by true e = refl
    by false e = cc

pub ruleset overs = (over-none, over-some)

-- the first of two lists
pub first-append : (xs ys : List ℕ) → first_of (xs ++ ys) ≡ or_first (first_of xs) (first_of ys)
first-append [] ys = refl
first-append (x ∷ xs) ys = refl

or-none : (o : Option ℕ) → or_first o None ≡ o
or-none None = refl
or-none (Some n) = refl

-- the operators beside a value in one operand of an item
abbrev in_one : Valued → Valued → List ℕ
in_one v u = too_wide (max (width v) (width u)) u.arithmetic

pub only-first : (v u : Valued) → first_of (wide_in v (Only u)) ≡ first_of (in_one v u)
only-first v u = first-append (in_one v u) [] ∙ or-none (first_of (in_one v u))

pub between-first : (v low high : Valued) → first_of (wide_in v (Between low high)) ≡ or_first (first_of (in_one v low)) (first_of (in_one v high))
between-first v low high =
    first-append (in_one v low) (in_one v high ++ []) ∙ ap (or_first (first_of (in_one v low))) (first-append (in_one v high) [] ∙ or-none (first_of (in_one v high)))

pub ruleset items = (only-first, between-first)

pub among-first : (v : Valued) (as' : List Alternative) → first_wide_among v as' ≡ first_of (flat_map (O.wide_in v) (map alternative as'))
among-first v [] = refl
among-first v (a ∷ as') =
    ap (or_first (first_of (wide_in v a))) (among-first v as') ∙ sym (first-append (wide_in v a) (flat_map (O.wide_in v) (map alternative as')))

pub inside-first : (at : ℕ) (v : Valued) (as' : List Alternative)
    → first_of (wide_inside at v (map alternative as'))
    ≡ or_first (first_of (too_wide (most (map (O.compared v) (map alternative as'))) v.arithmetic))
    (or_first (first_of (over at (most (map (O.ordered v) (map alternative as'))))) (first_wide_among v as'))
inside-first at v as' =
    let bs = map alternative as' in
    let c = too_wide (most (map (O.compared v) bs)) v.arithmetic in
    let o = over at (most (map (O.ordered v) bs)) in
    let w = flat_map (O.wide_in v) bs in
    first-append c (o ++ w) ∙ ap (or_first (first_of c)) (first-append o w ∙ ap (or_first (first_of o)) (sym (among-first v as')))
