-- Which rules there are.
use Rattle.std.proofs.Common.{◌≡◌, ◌++◌, ◌⊎◌, inl, inr, ℕ, zero, suc, List, [], ◌∷◌, Some, Bool, true, false, cond, refl, sym, subst, slice_get}
use Rattle.std.proofs.lemmas.Bool.{eqb-true, eq-eqb}
use Rattle.std.specs.Prelude.{nat_eq}
use Rattle.ll_engine.specs.declared.table.Row.{Row}
use Rattle.ll_engine.specs.declared.rules.Rule.{Rule}
use Rattle.ll_engine.specs.Grammar.{IsRowOf}
use Rattle.ll_engine.specs.Marks.{Has, Tells}

pub eq_true : (x a : ℕ) → nat_eq x a ≡ true → x ≡ a
eq_true x a e = eqb-true x a e

pub true_eq : (x a : ℕ) → x ≡ a → nat_eq x a ≡ true
true_eq x a e = eq-eqb x a e

pub has_left : {A : Type 0} (xs ys : List A) (x : A) → Has xs x → Has (xs ++ ys) x
has_left [] ys x h = absurd h
has_left (y ∷ xs) ys x (inl e) = inl e
has_left (y ∷ xs) ys x (inr h) = inr (has_left xs ys x h)

pub has_right : {A : Type 0} (xs ys : List A) (x : A) → Has ys x → Has (xs ++ ys) x
has_right [] ys x h = h
has_right (y ∷ xs) ys x h = inr (has_right xs ys x h)

pub has_either : {A : Type 0} (xs ys : List A) (x : A) → Has (xs ++ ys) x → Has xs x ⊎ Has ys x
has_either [] ys x h = inr h
has_either (y ∷ xs) ys x (inl e) = inl (inl e)
has_either (y ∷ xs) ys x (inr h) = later (has_either xs ys x h)
  where
    later : Has xs x ⊎ Has ys x → Has (y ∷ xs) x ⊎ Has ys x
    later (inl m) = inl (inr m)
    later (inr m) = inr m

pub has_cond : {A : Type 0} (b : Bool) (xs : List A) (x : A) → Has (cond b xs []) x → (b ≡ true) × Has xs x
has_cond true xs x h = (refl, h)
has_cond false xs x h = absurd h

pub cond_has : {A : Type 0} (b : Bool) (xs : List A) (x : A) → b ≡ true → Has xs x → Has (cond b xs []) x
cond_has true xs x e h = h
cond_has false xs x e h = cc

pub has_one : {A : Type 0} (y x : A) → Has (y ∷ []) x → y ≡ x
has_one y x (inl e) = e
has_one y x (inr h) = absurd h

-- the rules of all rows
abbrev pub each_row : (Row → List Rule) → List Row → List Rule
each_row f [] = []
each_row f (row ∷ rows) = f row ++ each_row f rows

pub record InRow (f : Row → List Rule) (t : List Row) (r : Rule) : Type 0 where
  pub at : ℕ
  pub row : Row
  pub is_there : slice_get t at ≡ Some row
  pub has : Has (f row) r

pub in_row : (f : Row → List Rule) (t : List Row) (r : Rule) → Has (each_row f t) r → InRow f t r
in_row f [] r h = absurd h
in_row f (row ∷ rows) r h = go (has_either (f row) (each_row f rows) r h) (in_row f rows r)
  where
    later : InRow f rows r → InRow f (row ∷ rows) r
    later m = record { at = suc m.at; row = m.row; is_there = m.is_there; has = m.has }

    go : Has (f row) r ⊎ Has (each_row f rows) r → (Has (each_row f rows) r → InRow f rows r) → InRow f (row ∷ rows) r
    go (inl m) rec = record { at = 0; row = row; is_there = refl; has = m }
    go (inr m) rec = later (rec m)

pub of_row : (f : Row → List Rule) (t : List Row) (i : ℕ) (row : Row) (r : Rule) → slice_get t i ≡ Some row → Has (f row) r
    → Has (each_row f t) r
of_row f [] i row r e h = cc
of_row f (x ∷ t) zero row r e h =
    let same : x ≡ row = cc in has_left (f x) (each_row f t) r (subst (λ q. Has (f q) r) (sym same) h)
of_row f (x ∷ t) (suc i) row r e h = has_right (f x) (each_row f t) r (of_row f t i row r e h)

pub tells_as : {P Q : Type 0} (b : Bool) → (P → Q) → (Q → P) → Tells b P → Tells b Q
tells_as true f g t = f t
tells_as false f g t = λ q. t (g q)

pub told : {P : Type 0} (b : Bool) → Tells b P → P → b ≡ true
told true t p = refl
told false t p = absurd (t p)

pub tells : {P : Type 0} (b : Bool) → Tells b P → b ≡ true → P
tells true t e = t
tells false t e = cc

pub tells_not : {P : Type 0} (b : Bool) → Tells b P → b ≡ false → P → ⊥
tells_not true t e = cc
tells_not false t e = t

pub own_row : {t : List Row} {i : ℕ} {row : Row} (h : ℕ) → slice_get t i ≡ Some row → row.head ≡ h → IsRowOf t h i row
own_row h e f = record { is_there = e; is_of = f }
