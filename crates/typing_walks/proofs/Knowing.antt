-- Parts that are looked at by what stands before them.
use Rattle.std.proofs.Common.{◌≡◌, List, Option, Some, None, refl, subst}
use Rattle.std.specs.Prelude.{⊤, Ok, Err}
use Rattle.sv_types.specs.declared.statement.Function.{Function}
use Rattle.expr_type.specs.Typings.{Checked, Typing, known, beside_by, both_by}
use Rattle.typing_fits.proofs.Contexts.{joined-both}
use Rattle.typing_fits.proofs.Given.{extends-on}
use Rattle.typing_walks.specs.Keeps.{Kept, Keeps, Lasts}
use Rattle.typing_walks.proofs.Keeping as K

-- what is known of a part that may be broken
abbrev pub IfKnown : {A : Type 0} → (A → List Function → Type 0) → Option A → List Function → Type 0
IfKnown P None gs = ⊤
IfKnown P (Some a) gs = P a gs

known-holds : {A : Type 0} (P : A → List Function → Type 0) (r : Checked A) (gs : List Function) → ((a : A) → r ≡ Ok a → P a gs) → IfKnown P (known r) gs
known-holds P (Ok a) gs s = s a refl
known-holds P (Err x) gs s = tt

module _ (Q : List Function → Type 0) where
  pub beside-by-keeps : {A B : Type 0} (P : A → List Function → Type 0) (R : B → List Function → Type 0) (x : Typing A) (y : Option A → Typing B) → Lasts P → Keeps Q P x
      → ((o : Option A) (gs : List Function) → Q gs → IfKnown P o gs → Kept B Q R gs (y o gs)) → Keeps Q (λ (p : A × B) gs. P p.0 gs × R p.1 gs) (beside_by x y)
  beside-by-keeps P R x y later k l gs q =
      let a = k gs q in
      let o = known (x gs).result in
      let b = l o (x gs).functions a.kept (known-holds P (x gs).result (x gs).functions a.sound) in
      record {
        extends = extends-on gs (x gs).functions (y o (x gs).functions).functions a.extends b.extends;
        kept = b.kept;
        sound = λ p h.
            let j = joined-both (x gs).result (y o (x gs).functions).result p h in
            (later p.0 (x gs).functions (y o (x gs).functions).functions b.extends (a.sound p.0 j.left), b.sound p.1 j.right);
      }

  pub by-keeps : {A B C : Type 0} (P : A → List Function → Type 0) (R : B → List Function → Type 0) (S : C → List Function → Type 0) (x : Typing A) (y : Option A → Typing B) (f : A → B → Typing C) → Lasts P → Keeps Q P x
      → ((o : Option A) (gs : List Function) → Q gs → IfKnown P o gs → Kept B Q R gs (y o gs)) → ((a : A) (b : B) (js : List Function) → Q js → P a js → R b js → Kept C Q S js (f a b js)) → Keeps Q S (both_by x y f)
  by-keeps {A = A} {B = B} P R S x y f later k l h =
      K.checked-keeps Q (λ (p : A × B) gs. P p.0 gs × R p.1 gs) S (beside_by x y) (λ p. f p.0 p.1) (beside-by-keeps P R x y later k l) (λ p js q s. h p.0 p.1 js q s.0 s.1)

  -- where what is made hangs on the part before
  abbrev pub KnownWith : {A B : Type 0} → (A → B → List Function → Type 0) → Option A → B → List Function → Type 0
  KnownWith R None b gs = ⊤
  KnownWith R (Some a) b gs = R a b gs

  pub beside-with-keeps : {A B : Type 0} (P : A → List Function → Type 0) (R : A → B → List Function → Type 0) (x : Typing A) (y : Option A → Typing B) → Lasts P → Keeps Q P x
      → ((o : Option A) (gs : List Function) → Q gs → IfKnown P o gs → Kept B Q (KnownWith R o) gs (y o gs)) → Keeps Q (λ (p : A × B) gs. P p.0 gs × R p.0 p.1 gs) (beside_by x y)
  beside-with-keeps P R x y later k l gs q =
      let a = k gs q in
      let o = known (x gs).result in
      let b = l o (x gs).functions a.kept (known-holds P (x gs).result (x gs).functions a.sound) in
      record {
        extends = extends-on gs (x gs).functions (y o (x gs).functions).functions a.extends b.extends;
        kept = b.kept;
        sound = λ p h.
            let j = joined-both (x gs).result (y o (x gs).functions).result p h in
            (later p.0 (x gs).functions (y o (x gs).functions).functions b.extends (a.sound p.0 j.left), subst (λ r. KnownWith R (known r) p.1 (y o (x gs).functions).functions) j.left (b.sound p.1 j.right));
      }

  pub with-keeps : {A B C : Type 0} (P : A → List Function → Type 0) (R : A → B → List Function → Type 0) (S : C → List Function → Type 0) (x : Typing A) (y : Option A → Typing B) (f : A → B → Typing C) → Lasts P → Keeps Q P x
      → ((o : Option A) (gs : List Function) → Q gs → IfKnown P o gs → Kept B Q (KnownWith R o) gs (y o gs)) → ((a : A) (b : B) (js : List Function) → Q js → P a js → R a b js → Kept C Q S js (f a b js)) → Keeps Q S (both_by x y f)
  with-keeps {A = A} {B = B} P R S x y f later k l h =
      K.checked-keeps Q (λ (p : A × B) gs. P p.0 gs × R p.0 p.1 gs) S (beside_by x y) (λ p. f p.0 p.1) (beside-with-keeps P R x y later k l) (λ p js q s. h p.0 p.1 js q s.0 s.1)
