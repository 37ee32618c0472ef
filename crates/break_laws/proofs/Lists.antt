-- Lists, and what is nowhere in them.
use Rattle.std.proofs.Common.{◌≡◌, ℕ, zero, suc, Bool, true, false, ◌&&◌, cond, List, [], ◌∷◌, ◌++◌, map, flat_map, Some, refl, ap, sym, ◌∙◌, inl, inr}
use Rattle.std.specs.Prelude.{slice_get}
use Rattle.std.proofs.lemmas.Bool.{false≢true}
use Rattle.row_machine.specs.Valuation.{Member}

abbrev pub is_none : {A : Type 0} → List A → Bool
is_none [] = true
is_none (x ∷ xs) = false

pub none-append : {A : Type 0} (xs ys : List A) → is_none (xs ++ ys) ≡ (is_none xs && is_none ys)
none-append [] ys = refl
none-append (x ∷ xs) ys = refl

pub none-is : {A : Type 0} (xs : List A) → is_none xs ≡ true → xs ≡ []
none-is [] h = refl
none-is (x ∷ xs) h = absurd (false≢true h)

pub none-parts : {A : Type 0} (xs ys : List A) → xs ++ ys ≡ [] → (xs ≡ []) × (ys ≡ [])
none-parts [] ys h = (refl, h)
none-parts (x ∷ xs) ys h = absurd (false≢true (ap is_none h))

pub none-mapped : {A B : Type 0} (f : A → B) (xs : List A) → map f xs ≡ [] → xs ≡ []
none-mapped f [] h = refl
none-mapped f (x ∷ xs) h = absurd (false≢true (ap is_none h))

pub none-of : {A B : Type 0} (f : A → List B) (xs : List A) (x : A) → Member xs x → flat_map f xs ≡ [] → f x ≡ []
none-of f [] x m h = elim m [ ]
none-of f (y ∷ xs) x (inl is) h = ap f is ∙ (none-parts (f y) (flat_map f xs) h).0
none-of f (y ∷ xs) x (inr m) h = none-of f xs x m (none-parts (f y) (flat_map f xs) h).1

-- what is only listed if a test passes
pub none-if : {A : Type 0} (b : Bool) (xs : List A) → b ≡ true → cond b xs [] ≡ [] → xs ≡ []
none-if b xs is h = sym (ap (λ c. cond c xs []) is) ∙ h

pub append-none : {A : Type 0} (xs : List A) → xs ++ [] ≡ xs
append-none [] = refl
append-none (x ∷ xs) = ap (λ ys. x ∷ ys) (append-none xs)

-- what stands at a place is in the list
pub there : {A : Type 0} (xs : List A) (n : ℕ) (x : A) → slice_get xs n ≡ Some x → Member xs x
there [] n x h = cc
there (y ∷ xs) zero x h = let same : x ≡ y = cc in inl same
there (y ∷ xs) (suc n) x h = inr (there xs n x h)

-- and what is in it stands somewhere
pub somewhere : {A : Type 0} (xs : List A) (x : A) → Member xs x → (n : ℕ) × (slice_get xs n ≡ Some x)
somewhere [] x m = elim m [ ]
somewhere (y ∷ xs) x (inl is) = (0, ap (λ z. Some z) (sym is))
somewhere (y ∷ xs) x (inr m) = let r = somewhere xs x m in (suc r.0, r.1)
