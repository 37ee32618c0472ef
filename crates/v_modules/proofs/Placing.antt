-- Places of functions, item by item.
use Rattle.std.proofs.Common.{◌≡◌, ℕ, suc, ◌+◌, ◌≤◌, ◌<◌, List, [], ◌∷◌, length, drop, get_or, refl, sym, ap, ◌∙◌, arith}
use Rattle.std.proofs.Math.Seq.{drop-cons}
use Rattle.v_tree.specs.declared.items.VItem.{VItem}
use Rattle.v_tree.specs.declared.items.VItem.TheVariants as I
use Rattle.v_meaning.specs.Modules.{functions}
use Rattle.v_eval.specs.Functions.{place_of}
use Rattle.v_modules.specs.Places.{Places, item_placed, one_function}

pub placed-cons : (k : ℕ) (i : VItem) (is : List VItem) → item_placed k i (place_of (suc k) is) ≡ place_of k (i ∷ is)
placed-cons k (I.Signal s) is = refl
placed-cons k (I.Initial x) is = refl
placed-cons k (I.Process p) is = refl
placed-cons k (I.Function f) is = refl
placed-cons k (I.Instance x) is = refl

pub placed-step : (items : List VItem) (j k : ℕ) (i : VItem) (ps qs : Places) → k ≡ suc j → j < length items → i ≡ get_or items j i → ps ≡ place_of k (drop k items)
    → qs ≡ item_placed j i ps → qs ≡ place_of j (drop j items)
placed-step items j k i ps qs next low is so_far now =
    now
    ∙ ap (item_placed j i) (so_far ∙ ap (λ n. place_of n (drop n items)) next)
    ∙ placed-cons j i (drop (suc j) items)
    ∙ sym (ap (place_of j) (drop-cons items j i low ∙ ap (λ x. x ∷ drop (suc j) items) (sym is)))

pub count-cons : (i : VItem) (is : List VItem) → one_function i + length (functions is) ≡ length (functions (i ∷ is))
count-cons (I.Signal s) is = omega arith
count-cons (I.Initial x) is = omega arith
count-cons (I.Process p) is = omega arith
count-cons (I.Function f) is = omega arith
count-cons (I.Instance x) is = omega arith

pub count-less : (is : List VItem) → length (functions is) ≤ length is
count-less [] = omega arith
count-less (I.Signal s ∷ is) = omega (arith, count-less is)
count-less (I.Initial x ∷ is) = omega (arith, count-less is)
count-less (I.Process p ∷ is) = omega (arith, count-less is)
count-less (I.Function f ∷ is) = omega (arith, count-less is)
count-less (I.Instance x ∷ is) = omega (arith, count-less is)

pub ruleset placing = (placed-cons)

pub ruleset counting = (count-cons, count-less)
