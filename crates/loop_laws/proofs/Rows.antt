-- Unrolled lists, part by part.
use Rattle.std.proofs.Common.{◌≡◌, ℕ, List, [], ◌∷◌, ◌++◌, Option, Some, None, refl, ap, sym, ◌∙◌}
use Rattle.sv_types.specs.declared.expression.Expr.{Expr}
use Rattle.sv_types.specs.Surroundings.{Sight}
use Rattle.design_breaks.specs.declared.Unrolled.{Unrolled}
use Rattle.design_breaks.specs.Indices.{lesser, long_in, said}
use Rattle.design_breaks.specs.Unrolling.{Unrolls, onward, one_less, in_turn, counted, found, valuing}
use Rattle.loop_laws.specs.Walks.{one_more, see}
use Rattle.loop_laws.proofs.Lesser.{lesser-assoc}

abbrev unless_full : Option ℕ → Unrolled → Unrolled → Unrolled
unless_full o u v = elim o [ None ↦ u | Some n ↦ v ]

pub onward-stops : (f : Unrolls) (k : Sight) (u : Unrolled) → u.left ≡ None → onward f k u ≡ u
onward-stops f k u is = ap (λ o. elim o [ None ↦ u | Some n ↦ f k u ]) is

pub onward-goes : (f : Unrolls) (k : Sight) (u : Unrolled) (n : ℕ) → u.left ≡ Some n → onward f k u ≡ f k u
onward-goes f k u n is = ap (λ o. elim o [ None ↦ u | Some m ↦ f k u ]) is

pub in_turn-stops : (fs : List Unrolls) (k : Sight) (u : Unrolled) → u.left ≡ None → in_turn fs k u ≡ u
in_turn-stops [] k u is = refl
in_turn-stops (f ∷ fs) k u is = ap (in_turn fs k) (onward-stops f k u is) ∙ in_turn-stops fs k u is

pub in_turn-append : (fs gs : List Unrolls) (k : Sight) (u : Unrolled) → in_turn (fs ++ gs) k u ≡ in_turn gs k (in_turn fs k u)
in_turn-append [] gs k u = refl
in_turn-append (f ∷ fs) gs k u = in_turn-append fs gs k (onward f k u)

pub onward-row : (fs : List Unrolls) (k : Sight) (u : Unrolled) → onward (in_turn fs) k u ≡ in_turn fs k u
onward-row fs k u = by u.left refl
  where
    by : (o : Option ℕ) → u.left ≡ o → onward (in_turn fs) k u ≡ in_turn fs k u
    by None is = onward-stops (in_turn fs) k u is ∙ sym (in_turn-stops fs k u is)
    by (Some n) is = onward-goes (in_turn fs) k u n is

full-stays : (u : Unrolled) → u.left ≡ None → one_more u ≡ u
full-stays u is = ap (λ o. record u { left = one_less o }) is ∙ sym (ap (λ o. record u { left = o }) is)

pub onward-counted : (f : Unrolls) (k : Sight) (u : Unrolled) → onward (counted f) k u ≡ onward f k (one_more u)
onward-counted f k u = by u.left refl
  where
    by : (o : Option ℕ) → u.left ≡ o → onward (counted f) k u ≡ onward f k (one_more u)
    by None is = onward-stops (counted f) k u is ∙ sym (ap (onward f k) (full-stays u is) ∙ onward-stops f k u is)
    by (Some n) is = onward-goes (counted f) k u n is

pub counted-row : (fs : List Unrolls) (k : Sight) (u : Unrolled) → onward (counted (in_turn fs)) k u ≡ in_turn fs k (one_more u)
counted-row fs k u = onward-counted (in_turn fs) k u ∙ onward-row fs k (one_more u)

-- tokens that are found
pub found-left : (o : Option ℕ) (u : Unrolled) → (found o u).left ≡ u.left
found-left None u = refl
found-left (Some at) u = refl

pub found-two : (a b : Option ℕ) (u : Unrolled) → found (lesser a b) u ≡ found b (found a u)
found-two None b u = refl
found-two (Some x) None u = refl
found-two (Some x) (Some y) u = ap (λ o. record u { endless = o }) (sym (lesser-assoc u.endless (Some x) (Some y)))

pub long-append : (xs ys : List Expr) (k : Sight) → long_in (xs ++ ys) k ≡ lesser (long_in xs k) (long_in ys k)
long-append [] ys k = refl
long-append (x ∷ xs) ys k = ap (lesser ((said x).long k)) (long-append xs ys k) ∙ sym (lesser-assoc ((said x).long k) (long_in xs k) (long_in ys k))

pub see-append : (xs ys : List Expr) (k : Sight) (u : Unrolled) → see (xs ++ ys) k u ≡ see ys k (see xs k u)
see-append xs ys k u = by u.left refl
  where
    by : (o : Option ℕ) → u.left ≡ o → see (xs ++ ys) k u ≡ see ys k (see xs k u)
    by None is = onward-stops (valuing (xs ++ ys)) k u is ∙ sym (ap (see ys k) (onward-stops (valuing xs) k u is) ∙ onward-stops (valuing ys) k u is)
    by (Some n) is =
        onward-goes (valuing (xs ++ ys)) k u n is ∙ ap (λ o. found o u) (long-append xs ys k) ∙ found-two (long_in xs k) (long_in ys k) u
        ∙ sym (ap (see ys k) (onward-goes (valuing xs) k u n is) ∙ onward-goes (valuing ys) k (found (long_in xs k) u) n (found-left (long_in xs k) u ∙ is))

pub see-none : (k : Sight) (u : Unrolled) → see [] k u ≡ u
see-none k u = by u.left refl
  where
    by : (o : Option ℕ) → u.left ≡ o → see [] k u ≡ u
    by None is = onward-stops (valuing []) k u is
    by (Some n) is = onward-goes (valuing []) k u n is
