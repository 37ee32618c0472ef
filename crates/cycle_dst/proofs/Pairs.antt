-- Pairs, one behind the other.
use Rattle.std.proofs.Common.{◌≡◌, ◌⊎◌, ℕ, zero, suc, ◌+◌, ◌<◌, ◌≤◌, List, [], ◌∷◌, ◌++◌, length, take, map, flat_map, get_or, Some, slice_get, refl, sym, ap, ◌∙◌, subst, inl, inr, arith}
use Rattle.std.proofs.lemmas.List.{length-append, append-nil}
use Rattle.std.proofs.lemmas.Option.{slice_get_within}
use Rattle.cycle_dst.specs.Pairs.{Pairs}

pub no-pairs : {A B : Type 0} (R : A → B → Type 0) (xs : List A) (ys : List B) → xs ≡ [] → ys ≡ [] → Pairs R xs ys
no-pairs R [] [] e f = record { long = refl; each = λ i x y h g. absurd (cc) }
no-pairs R (x ∷ xs) ys e f = absurd (cc)
no-pairs R [] (y ∷ ys) e f = absurd (cc)

-- an element of a list with one more behind it
get-push : {A : Type 0} (xs : List A) (x a : A) (i : ℕ) → slice_get (xs ++ x ∷ []) i ≡ Some a → (slice_get xs i ≡ Some a) ⊎ ((i ≡ length xs) × (x ≡ a))
get-push [] x a zero e = inr (refl, cc)
get-push [] x a (suc i) e = absurd (cc)
get-push (y ∷ xs) x a zero e = inl e
get-push (y ∷ xs) x a (suc i) e = elim (get-push xs x a i e) [ inl h ↦ inl h | inr h ↦ inr (ap suc h.0, h.1) ]

pub pairs-push : {A B : Type 0} (R : A → B → Type 0) (xs : List A) (ys : List B) (x : A) (y : B) → Pairs R xs ys → R x y → Pairs R (xs ++ x ∷ []) (ys ++ y ∷ [])
pairs-push {A} {B} R xs ys x y h r = record {
  long = length-append xs (x ∷ []) ∙ ap (λ n. n + 1) h.long ∙ sym (length-append ys (y ∷ []));
  each = λ i a b e f. by i a b (get-push xs x a i e) (get-push ys y b i f);
}
  where
    by : (i : ℕ) (a : A) (b : B) → (slice_get xs i ≡ Some a) ⊎ ((i ≡ length xs) × (x ≡ a)) → (slice_get ys i ≡ Some b) ⊎ ((i ≡ length ys) × (y ≡ b)) → R a b
    by i a b (inl e) (inl f) = h.each i a b e f
    by i a b (inl e) (inr f) = let below = slice_get_within xs i a e in let long = h.long in let at = f.0 in absurd (omega (arith, below, long, at))
    by i a b (inr e) (inl f) = let below = slice_get_within ys i b f in let long = h.long in let at = e.0 in absurd (omega (arith, below, long, at))
    by i a b (inr e) (inr f) = subst (λ c. R c b) e.1 (subst (R x) f.1 r)

-- what one element more adds
pub flat-next : {A B : Type 0} (f : A → List B) (xs : List A) (k : ℕ) (x : A) → k < length xs → x ≡ get_or xs k x → flat_map f (take (k + 1) xs) ≡ flat_map f (take k xs) ++ f x
flat-next f [] k x h e = absurd (omega (arith, h))
flat-next f (y ∷ xs) zero x h e = append-nil (f y) ∙ ap f (sym e)
flat-next f (y ∷ xs) (suc k) x h e =
    ap (λ n. flat_map f (take n (y ∷ xs))) (more k) ∙ ap (λ l. f y ++ l) (flat-next f xs k x (omega (arith, h)) e) ∙ sym (regroup (f y) (flat_map f (take k xs)) (f x))
  where
    more : (k : ℕ) → suc k + 1 ≡ suc (k + 1)
    more k = omega arith

    regroup : {C : Type 0} (a b c : List C) → (a ++ b) ++ c ≡ a ++ (b ++ c)
    regroup [] b c = refl
    regroup (x ∷ a) b c = ap (λ l. x ∷ l) (regroup a b c)

pub flat-all : {A B : Type 0} (f : A → List B) (xs : List A) (k : ℕ) → length xs ≤ k → flat_map f (take k xs) ≡ flat_map f xs
flat-all f [] zero h = refl
flat-all f [] (suc k) h = refl
flat-all f (x ∷ xs) zero h = absurd (omega (arith, h))
flat-all f (x ∷ xs) (suc k) h = ap (λ l. f x ++ l) (flat-all f xs k (omega (arith, h)))

pub flat-map : {A B C : Type 0} (f : B → List C) (g : A → B) (xs : List A) → flat_map f (map g xs) ≡ flat_map (λ x. f (g x)) xs
flat-map f g [] = refl
flat-map f g (x ∷ xs) = ap (λ l. f (g x) ++ l) (flat-map f g xs)
