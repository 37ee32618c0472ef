-- Lists that are built from left to right, where each element has what it is to have.
use Rattle.std.proofs.Common.{◌≡◌, ℕ, suc, ◌+◌, ◌<◌, List, [], ◌∷◌, ◌++◌, drop, length, map, slice_index_or, Option, Some, None, refl, sym, ap, ◌∙◌, add-one, append_assoc, drop-cons}
use Rattle.core_forms.specs.Forms.{then_one, then_two, each}

-- what is made so far, and what is still to come
abbrev pub behind : {B : Type 0} → List B → Option (List B) → Option (List B)
behind made rest = then_one (λ r. made ++ r) rest

pub each-map : {A B C : Type 0} (f : B → Option C) (g : A → B) (xs : List A) → each f (map g xs) ≡ each (λ x. f (g x)) xs
each-map f g [] = refl
each-map f g (x ∷ xs) = ap (λ o. then_two (λ y ys. y ∷ ys) (f (g x)) o) (each-map f g xs)

pub one-made : {A B : Type 0} (f : A → Option B) (made : List B) (x : A) (y : B) (rest : List A) → f x ≡ Some y
    → behind (made ++ y ∷ []) (each f rest) ≡ behind made (each f (x ∷ rest))
one-made {B = B} f made x y rest e = by_rest (each f rest) ∙ sym (ap (λ o. behind made (then_two (λ z zs. z ∷ zs) o (each f rest))) e)
  where
    by_rest : (o : Option (List B)) → then_one (λ r. (made ++ y ∷ []) ++ r) o ≡ then_one (λ r. made ++ r) (then_two (λ z zs. z ∷ zs) (Some y) o)
    by_rest None = refl
    by_rest (Some r) = ap Some (append_assoc made (y ∷ []) r)

pub step-made : {A B : Type 0} (f : A → Option B) (made made' : List B) (xs : List A) (i : ℕ) (x : A) (y : B) → i < length xs → x ≡ slice_index_or xs i x → f x ≡ Some y → made' ≡ made ++ y ∷ []
    → behind made' (each f (drop (i + 1) xs)) ≡ behind made (each f (drop i xs))
step-made f made made' xs i x y h is e grown =
    let next : drop i xs ≡ x ∷ drop (suc i) xs = drop-cons xs i x h ∙ ap (λ z. z ∷ drop (suc i) xs) (sym is) in
    (λ j. behind (grown j) (each f (drop (add-one i j) xs)))
    ∙ one-made f made x y (drop (suc i) xs) e
    ∙ ap (λ zs. behind made (each f zs)) (sym next)
