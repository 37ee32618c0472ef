-- Typings that are put together keep what their parts keep.
use Rattle.std.proofs.Common.{◌≡◌, List, [], ◌∷◌, refl, subst}
use Rattle.std.specs.Prelude.{Ok, Err}
use Rattle.sv_types.specs.declared.statement.Function.{Function}
use Rattle.expr_type.specs.Breaks.{Breaks, Position}
use Rattle.expr_type.specs.Typings.{Checked, Typing, whole, broken, rule, applied, checked, beside, both, all, put_behind, from_token}
use Rattle.typing_fits.specs.Sound.{Extends}
use Rattle.typing_fits.proofs.Contexts.{joined-both}
use Rattle.typing_fits.proofs.Given.{extends-itself, extends-on}
use Rattle.typing_walks.specs.Keeps.{Kept, Keeps, AllKeep, AllHold, Lasts}

abbrev ok : {A : Type 0} → A → Checked A
ok a = Ok a

abbrev none_whole : {A : Type 0} → Breaks → Checked A
none_whole b = Err b

module _ (Q : List Function → Type 0) where
  -- the functions stay as they are
  pub rule-kept : {A : Type 0} (P : A → List Function → Type 0) (r : Checked A) (gs : List Function) → Q gs → ((a : A) → r ≡ Ok a → P a gs) → Kept A Q P gs (record { result = r; functions = gs })
  rule-kept P r gs q s = record { extends = extends-itself gs; kept = q; sound = s }

  pub rule-keeps : {A : Type 0} (P : A → List Function → Type 0) (r : Checked A) → ((gs : List Function) (a : A) → r ≡ Ok a → P a gs) → Keeps Q P (rule r)
  rule-keeps P r s gs q = rule-kept P r gs q (s gs)

  pub whole-kept : {A : Type 0} (P : A → List Function → Type 0) (a : A) (gs : List Function) → Q gs → P a gs → Kept A Q P gs (whole a gs)
  whole-kept {A = A} P a gs q s = record { extends = extends-itself gs; kept = q; sound = λ b h. by b h }
    where
      by : (b : A) → ok a ≡ Ok b → P b gs
      by b h = let e : a ≡ b = cc in subst (λ x. P x gs) e s

  pub whole-keeps : {A : Type 0} (P : A → List Function → Type 0) (a : A) → ((gs : List Function) → P a gs) → Keeps Q P (whole a)
  whole-keeps P a s gs q = whole-kept P a gs q (s gs)

  no-sound : {A : Type 0} (P : A → List Function → Type 0) (b : Breaks) (gs : List Function) (a : A) → none_whole {A = A} b ≡ Ok a → P a gs
  no-sound P b gs a h = absurd (cc)

  pub broken-keeps : {A : Type 0} (P : A → List Function → Type 0) (b : Breaks) → Keeps Q P (broken b)
  broken-keeps P b gs q = record { extends = extends-itself gs; kept = q; sound = no-sound P b gs }

  -- a part and what is made of it
  then-kept : {A B : Type 0} (P : A → List Function → Type 0) (R : B → List Function → Type 0) (r : Checked A) (f : A → Typing B) (gs hs : List Function) → Extends gs hs → Q hs → ((a : A) → r ≡ Ok a → P a hs)
      → ((a : A) (js : List Function) → Q js → P a js → Kept B Q R js (f a js)) → Kept B Q R gs (applied r f hs)
  then-kept P R (Ok a) f gs hs e q s h =
      let k = h a hs q (s a refl) in
      record { extends = extends-on gs hs (f a hs).functions e k.extends; kept = k.kept; sound = k.sound }
  then-kept P R (Err x) f gs hs e q s h = record { extends = e; kept = q; sound = no-sound R x hs }

  pub checked-kept : {A B : Type 0} (P : A → List Function → Type 0) (R : B → List Function → Type 0) (x : Typing A) (f : A → Typing B) (gs : List Function) → Kept A Q P gs (x gs)
      → ((a : A) (js : List Function) → Q js → P a js → Kept B Q R js (f a js)) → Kept B Q R gs (checked x f gs)
  checked-kept P R x f gs k h = then-kept P R (x gs).result f gs (x gs).functions k.extends k.kept k.sound h

  pub checked-keeps : {A B : Type 0} (P : A → List Function → Type 0) (R : B → List Function → Type 0) (x : Typing A) (f : A → Typing B) → Keeps Q P x
      → ((a : A) (js : List Function) → Q js → P a js → Kept B Q R js (f a js)) → Keeps Q R (checked x f)
  checked-keeps P R x f k h gs q = checked-kept P R x f gs (k gs q) h

  -- two parts
  pub beside-keeps : {A B : Type 0} (P : A → List Function → Type 0) (R : B → List Function → Type 0) (x : Typing A) (y : Typing B) → Lasts P → Keeps Q P x → Keeps Q R y
      → Keeps Q (λ (p : A × B) gs. P p.0 gs × R p.1 gs) (beside x y)
  beside-keeps P R x y later k l gs q =
      let a = k gs q in
      let b = l (x gs).functions a.kept in
      record {
        extends = extends-on gs (x gs).functions (y (x gs).functions).functions a.extends b.extends;
        kept = b.kept;
        sound = λ p h.
            let j = joined-both (x gs).result (y (x gs).functions).result p h in
            (later p.0 (x gs).functions (y (x gs).functions).functions b.extends (a.sound p.0 j.left), b.sound p.1 j.right);
      }

  pub both-keeps : {A B C : Type 0} (P : A → List Function → Type 0) (R : B → List Function → Type 0) (S : C → List Function → Type 0) (x : Typing A) (y : Typing B) (f : A → B → Typing C) → Lasts P → Keeps Q P x → Keeps Q R y
      → ((a : A) (b : B) (js : List Function) → Q js → P a js → R b js → Kept C Q S js (f a b js)) → Keeps Q S (both x y f)
  both-keeps {A = A} {B = B} P R S x y f later k l h =
      checked-keeps (λ (p : A × B) gs. P p.0 gs × R p.1 gs) S (beside x y) (λ p. f p.0 p.1) (beside-keeps P R x y later k l) (λ p js q s. h p.0 p.1 js q s.0 s.1)

  -- all of some parts
  pub all-last : {A : Type 0} (P : A → List Function → Type 0) → Lasts P → Lasts (λ as' gs. AllHold P as' gs)
  all-last P later [] gs hs e s = tt
  all-last P later (a ∷ as') gs hs e s = (later a gs hs e s.0, all-last P later as' gs hs e s.1)

  pub all-keeps : {A : Type 0} (P : A → List Function → Type 0) (xs : List (Typing A)) → Lasts P → AllKeep Q P xs → Keeps Q (λ as' gs. AllHold P as' gs) (all xs)
  all-keeps P [] later k = whole-keeps (λ as' gs. AllHold P as' gs) [] (λ gs. tt)
  all-keeps P (x ∷ xs) later k =
      both-keeps P (λ as' gs. AllHold P as' gs) (λ as' gs. AllHold P as' gs) x (all xs) (λ a as'. whole (a ∷ as')) later k.0 (all-keeps P xs later k.1)
      (λ a as' js q s r. whole-kept (λ bs gs. AllHold P bs gs) (a ∷ as') js q (s, r))

  -- what is looked at from a token on
  behind-ok : {A : Type 0} (p : Position) (r : Checked A) (a : A) → put_behind p r ≡ Ok a → r ≡ Ok a
  behind-ok p (Ok b) a h = h
  behind-ok p (Err x) a h = absurd (cc)

  pub from-keeps : {A : Type 0} (P : A → List Function → Type 0) (p : Position) (x : Typing A) → Keeps Q P x → Keeps Q P (from_token p x)
  from-keeps P p x k gs q = let t = k gs q in record { extends = t.extends; kept = t.kept; sound = λ a h. t.sound a (behind-ok p (x gs).result a h) }
