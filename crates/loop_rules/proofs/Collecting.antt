-- What is found of each of some things, one after the other.
use Rattle.std.proofs.Common.{◌≡◌, ℕ, zero, suc, ◌+◌, ◌<◌, ◌≤◌, List, [], ◌∷◌, ◌++◌, length, length-append, get_or, Some, None, refl, ap, sym, ◌∙◌, subst, arith}
use Rattle.std.specs.Prelude.{slice_get}
use Rattle.std.proofs.lemmas.Option.{slice_get_read}

abbrev pub EachOf : {A B : Type 0} → (A → B → Type 0) → List A → List B → Type 0
EachOf {A} {B} R xs ys = (n : ℕ) (a : A) (b : B) → slice_get xs n ≡ Some a → slice_get ys n ≡ Some b → R a b

some-same : {A : Type 0} (a b : A) → Some a ≡ Some b → a ≡ b
some-same a b is = cc

none-some : {A B : Type 0} (a : A) → None ≡ Some a → B
none-some a is = absurd (cc)

pub each-none : {A B : Type 0} (R : A → B → Type 0) (xs : List A) → EachOf R xs []
each-none R xs n a b at is = none-some b is

-- one more
pub each-more : {A B : Type 0} (R : A → B → Type 0) (xs : List A) (ys : List B) (x : A) (y : B) → slice_get xs (length ys) ≡ Some x → R x y → EachOf R xs ys → EachOf R xs (ys ++ y ∷ [])
each-more R [] ys x y at r each n a b is js = none-some a is
each-more R (x' ∷ xs) [] x y at r each zero a b is js =
    subst (λ p. R p b) (some-same x a (sym at ∙ is)) (subst (R x) (some-same y b js) r)
each-more R (x' ∷ xs) [] x y at r each (suc n) a b is js = none-some b js
each-more R (x' ∷ xs) (y' ∷ ys) x y at r each zero a b is js = each zero a b is js
each-more R (x' ∷ xs) (y' ∷ ys) x y at r each (suc n) a b is js = each-more R xs ys x y at r (λ m c d cs ds. each (suc m) c d cs ds) n a b is js

-- of the first so many
abbrev pub SoFar : {A B : Type 0} → (A → B → Type 0) → List A → ℕ → List B → Type 0
SoFar {A} {B} R xs k ys = (length ys ≡ k) × EachOf R xs ys

pub so-far-none : {A B : Type 0} (R : A → B → Type 0) (xs : List A) → SoFar R xs 0 []
so-far-none R xs = (refl, each-none R xs)

length-more : {B : Type 0} (ys : List B) (y : B) → length (ys ++ y ∷ []) ≡ length ys + 1
length-more ys y = length-append ys (y ∷ [])

pub so-far-more : {A B : Type 0} (R : A → B → Type 0) (xs : List A) (k : ℕ) (ys zs : List B) (x : A) (y : B) → k < length xs → x ≡ get_or xs k x → R x y → SoFar R xs k ys → zs ≡ ys ++ y ∷ [] → SoFar R xs (k + 1) zs
so-far-more {A} {B} R xs k ys zs x y low is r far all =
    let here : slice_get xs (length ys) ≡ Some x = ap (slice_get xs) far.0 ∙ slice_get_read xs (length xs) k x refl low is in
    subst (SoFar R xs (k + 1)) (sym all) (length-more ys y ∙ ap (λ n. n + 1) far.0, each-more R xs ys x y here r far.1)

pub whole : {A B : Type 0} (R : A → B → Type 0) (xs : List A) (k : ℕ) (ys : List B) → length xs ≤ k → k ≤ length xs → SoFar R xs k ys → (length ys ≡ length xs) × EachOf R xs ys
whole R xs k ys past within far = (far.0 ∙ equal k (length xs) past within, far.1)
  where
    equal : (a b : ℕ) → b ≤ a → a ≤ b → a ≡ b
    equal a b low high = omega (arith, low, high)
