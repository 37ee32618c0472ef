-- Lists of names, and members of lists.
use Rattle.std.proofs.Common.{◌≡◌, ℕ, zero, suc, ◌⊎◌, Bool, true, false, not, if◌then◌else◌, List, [], ◌∷◌, ◌++◌, map, Some, refl, sym, ap, subst, inl, inr}
use Rattle.std.specs.List.{slice_get}
use Rattle.std.specs.Str.{bytes_eq}
use Rattle.std.proofs.lemmas.Slice.Eq.{bytes_eq-Decides}
use Rattle.std.proofs.lemmas.Bool.{or_cases, or_left, or_right, false≢true}
use Rattle.row_machine.specs.Valuation.{Member}
use Rattle.v_tree.specs.Names.{among}

pub same_bytes : (a : List ℕ) → bytes_eq a a ≡ true
same_bytes a = (bytes_eq-Decides a a).1 refl

pub bytes_same : (a b : List ℕ) → bytes_eq a b ≡ true → a ≡ b
bytes_same a b e = (bytes_eq-Decides a b).0 e

pub true_or_false : (b : Bool) → (b ≡ true) ⊎ (b ≡ false)
true_or_false true = inl refl
true_or_false false = inr refl

pub not_true : (b : Bool) → not b ≡ true → b ≡ false
not_true true e = absurd (false≢true e)
not_true false e = refl

pub among-member : (names : List (List ℕ)) (name : List ℕ) → Member names name → among names name ≡ true
among-member [] name m = elim m [ ]
among-member (n ∷ ns) name (inl e) = or_left (bytes_eq n name) (among ns name) (subst (λ x. bytes_eq n x ≡ true) (sym e) (same_bytes n))
among-member (n ∷ ns) name (inr m) = or_right (bytes_eq n name) (among ns name) (among-member ns name m)

pub member-among : (names : List (List ℕ)) (name : List ℕ) → among names name ≡ true → Member names name
member-among [] name e = absurd (false≢true e)
member-among (n ∷ ns) name e =
    elim (or_cases (bytes_eq n name) (among ns name) e) [ inl h ↦ inl (sym (bytes_same n name h)) | inr h ↦ inr (member-among ns name h) ]

pub member-at : {A : Type 0} (xs : List A) (n : ℕ) (x : A) → slice_get xs n ≡ Some x → Member xs x
member-at [] n x e = cc
member-at (y ∷ ys) zero x e = inl (cc)
member-at (y ∷ ys) (suc n) x e = inr (member-at ys n x e)

pub member-map : {A B : Type 0} (f : A → B) (xs : List A) (x : A) → Member xs x → Member (map f xs) (f x)
member-map f [] x m = elim m [ ]
member-map f (y ∷ ys) x (inl e) = inl (ap f e)
member-map f (y ∷ ys) x (inr m) = inr (member-map f ys x m)

pub pick_true : {A : Type 0} (b : Bool) (x y : A) → b ≡ true → (if b then x else y) ≡ x
pick_true true x y e = refl
pick_true false x y e = absurd (false≢true e)

pub pick_false : {A : Type 0} (b : Bool) (x y : A) → b ≡ false → (if b then x else y) ≡ y
pick_false true x y e = absurd (false≢true (sym e))
pick_false false x y e = refl

pub append-nil : {A : Type 0} (xs : List A) → xs ++ [] ≡ xs
append-nil [] = refl
append-nil (x ∷ xs) = ap (λ ys. x ∷ ys) (append-nil xs)

pub member-left : {A : Type 0} (xs ys : List A) (x : A) → Member xs x → Member (xs ++ ys) x
member-left [] ys x m = elim m [ ]
member-left (z ∷ zs) ys x (inl e) = inl e
member-left (z ∷ zs) ys x (inr m) = inr (member-left zs ys x m)

pub member-right : {A : Type 0} (xs ys : List A) (x : A) → Member ys x → Member (xs ++ ys) x
member-right [] ys x m = m
member-right (z ∷ zs) ys x m = inr (member-right zs ys x m)

pub member-unmap : {A B : Type 0} (f : A → B) (xs : List A) (y : B) → Member (map f xs) y → (x : A) × Member xs x × (y ≡ f x)
member-unmap f [] y m = elim m [ ]
member-unmap f (x ∷ xs) y (inl e) = (x, inl refl, e)
member-unmap f (x ∷ xs) y (inr m) = let u = member-unmap f xs y m in (u.0, inr u.1, u.2)

pub member-split : {A : Type 0} (xs ys : List A) (x : A) → Member (xs ++ ys) x → Member xs x ⊎ Member ys x
member-split [] ys x m = inr m
member-split (z ∷ zs) ys x (inl e) = inl (inl e)
member-split (z ∷ zs) ys x (inr m) = elim (member-split zs ys x m) [ inl k ↦ inl (inr k) | inr k ↦ inr k ]
