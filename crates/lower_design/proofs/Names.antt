-- Names, and look-ups among distinct ones.
use Rattle.std.proofs.Common.{◌≡◌, ℕ, zero, suc, ◌⊎◌, Bool, true, false, not, ◌&&◌, if◌then◌else◌, List, [], ◌∷◌, Some, refl, sym, ap, subst, ◌∙◌, inl, inr}
use Rattle.std.specs.List.{slice_get}
use Rattle.std.specs.Str.{bytes_eq}
use Rattle.std.proofs.lemmas.Slice.Eq.{bytes_eq-Decides}
use Rattle.std.proofs.lemmas.Bool.{or_cases, or_left, or_right, and_parts, false≢true}
use Rattle.row_machine.specs.Valuation.{Member}
use Rattle.v_tree.specs.Names.{Name, among, distinct}

pub same_bytes : (a : Name) → bytes_eq a a ≡ true
same_bytes a = (bytes_eq-Decides a a).1 refl

pub bytes_same : (a b : Name) → bytes_eq a b ≡ true → a ≡ b
bytes_same a b e = (bytes_eq-Decides a b).0 e

pub true_or_false : (b : Bool) → (b ≡ true) ⊎ (b ≡ false)
true_or_false true = inl refl
true_or_false false = inr refl

pub differ_bytes : (a b : Name) → (a ≡ b → ⊥) → bytes_eq a b ≡ false
differ_bytes a b h = elim (true_or_false (bytes_eq a b)) [ inl e ↦ absurd (h (bytes_same a b e)) | inr e ↦ e ]

pub not_true : (b : Bool) → not b ≡ true → b ≡ false
not_true true e = absurd (false≢true e)
not_true false e = refl

pub among-member : (names : List Name) (name : Name) → Member names name → among names name ≡ true
among-member [] name m = elim m [ ]
among-member (n ∷ ns) name (inl e) = or_left (bytes_eq n name) (among ns name) (subst (λ x. bytes_eq n x ≡ true) (sym e) (same_bytes n))
among-member (n ∷ ns) name (inr m) = or_right (bytes_eq n name) (among ns name) (among-member ns name m)

pub member-among : (names : List Name) (name : Name) → among names name ≡ true → Member names name
member-among [] name e = absurd (false≢true e)
member-among (n ∷ ns) name e =
    elim (or_cases (bytes_eq n name) (among ns name) e) [ inl h ↦ inl (sym (bytes_same n name h)) | inr h ↦ inr (member-among ns name h) ]

pub not-among : (names : List Name) (name : Name) → (Member names name → ⊥) → among names name ≡ false
not-among names name h = elim (true_or_false (among names name)) [ inl e ↦ absurd (h (member-among names name e)) | inr e ↦ e ]

pub member-at : {A : Type 0} (xs : List A) (n : ℕ) (x : A) → slice_get xs n ≡ Some x → Member xs x
member-at [] n x e = cc
member-at (y ∷ ys) zero x e = inl (cc)
member-at (y ∷ ys) (suc n) x e = inr (member-at ys n x e)

pub at-member : {A : Type 0} (xs : List A) (x : A) → Member xs x → (n : ℕ) × (slice_get xs n ≡ Some x)
at-member [] x m = elim m [ ]
at-member (y ∷ ys) x (inl e) = (0, ap Some (sym e))
at-member (y ∷ ys) x (inr m) = let r = at-member ys x m in (suc r.0, r.1)

pub pick_true : {A : Type 0} (b : Bool) (x y : A) → b ≡ true → (if b then x else y) ≡ x
pick_true true x y e = refl
pick_true false x y e = absurd (false≢true e)

pub pick_false : {A : Type 0} (b : Bool) (x y : A) → b ≡ false → (if b then x else y) ≡ y
pick_false true x y e = absurd (false≢true (sym e))
pick_false false x y e = refl

pub first_fresh : (n : Name) (names : List Name) → distinct (n ∷ names) ≡ true → Member names n → ⊥
first_fresh n names d m = false≢true (sym (not_true _ (and_parts _ _ d).0) ∙ among-member names n m)

pub rest_distinct : (n : Name) (names : List Name) → distinct (n ∷ names) ≡ true → distinct names ≡ true
rest_distinct n names d = (and_parts _ _ d).1

pub distinct_more : (n : Name) (names : List Name) → (Member names n → ⊥) → distinct names ≡ true → distinct (n ∷ names) ≡ true
distinct_more n names fresh d = (λ i. not (not-among names n fresh i) && distinct names) ∙ d
