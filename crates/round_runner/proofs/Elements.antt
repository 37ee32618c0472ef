-- Elements of lists by their places.
use Rattle.std.proofs.Common.{◌≡◌, ℕ, zero, suc, ◌+◌, ◌<◌, List, [], ◌∷◌, length, map, drop, Some, slice_get, slice_index_or, refl, ap, ◌∙◌, arith, le_of_suc-le-suc}
use Rattle.std.proofs.lemmas.Option.{slice_get-map, get_or_from_slice_get}
use Rattle.std.specs.Option.{option_map}

pub element : {A : Type 0} (xs : List A) (i : ℕ) → i < length xs → (x : A) × (slice_get xs i ≡ Some x)
element [] i h = absurd (omega arith)
element (x ∷ xs) zero h = (x, refl)
element (x ∷ xs) (suc i) h = element xs i (le_of_suc-le-suc h)

-- the rest from an element on
pub rest_at : {A : Type 0} (xs : List A) (i : ℕ) (x : A) → slice_get xs i ≡ Some x → drop i xs ≡ x ∷ drop (i + 1) xs
rest_at [] i x e = cc
rest_at (y ∷ xs) zero x e = let same : y ≡ x = cc in ap (λ z. z ∷ xs) same
rest_at (y ∷ xs) (suc i) x e = rest_at xs i x e ∙ ap (λ n. x ∷ drop n (y ∷ xs)) (let k : suc (i + 1) ≡ suc i + 1 = omega arith in k)

-- an element of a list that is mapped
pub mapped_at : {A B : Type 0} (f : A → B) (xs : List A) (ys : List B) (i : ℕ) (x : A) (d : B) → ys ≡ map f xs → slice_get xs i ≡ Some x → slice_index_or ys i d ≡ f x
mapped_at f xs ys i x d e h =
    get_or_from_slice_get ys i (f x) d (ap (λ zs. slice_get zs i) e ∙ slice_get-map f xs i ∙ ap (option_map f) h)
