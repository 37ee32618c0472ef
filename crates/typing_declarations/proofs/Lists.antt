-- Lists one after another, from an index on.
use Rattle.std.proofs.Common.{◌≡◌, ◌+◌, ◌<◌, ◌≤◌, ℕ, List, [], ◌∷◌, length, get_or, drop, sym, subst, add-one, drop-cons}
use Rattle.std.proofs.lemmas.List.{at_drop_all}

pub here : {A : Type 0} (P : List A → Type 0) (xs : List A) (i : ℕ) (x : A) → i < length xs → x ≡ get_or xs i x → P (drop i xs) → P (x ∷ drop (i + 1) xs)
here {A = A} P xs i x within is p =
    subst (λ (y : A). P (y ∷ drop (i + 1) xs)) (sym is)
    (subst (λ (j : ℕ). P (get_or xs i x ∷ drop j xs)) (sym (add-one i)) (subst P (drop-cons xs i x within) p))

pub at-end : {A : Type 0} (P : List A → Type 0) (xs : List A) (i : ℕ) → length xs ≤ i → P (drop i xs) → P []
at-end {A = A} P xs i past p = subst P (at_drop_all (λ (ys : List A). ys) xs i past) p
