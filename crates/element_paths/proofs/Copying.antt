-- Elements found, and paths in them, step by step.
use Rattle.std.proofs.Common.{◌≡◌, ◌⊎◌, inl, inr, ℕ, Bool, false, ℤ, Option, Some, None, Result, Ok, IfOk, ap, sym, ◌∙◌, subst}
use Rattle.sv_types.specs.declared.expression.Expr.{Expr}
use Rattle.sv_types.specs.declared.expression.Form.{Form, out-Form}
use Rattle.sv_types.specs.declared.expression.Form.TheVariants as V
use Rattle.sv_types.specs.declared.types.SvType.{SvType}
use Rattle.eval_parts.specs.Steps.{is_path}
use Rattle.memory_paths.specs.Inner.{IsInner, of_element, of_member, of_index, of_part, of_slide}
use Rattle.element_paths.specs.declared.elements.Element.{Element}
use Rattle.element_paths.specs.Elements.{GoesOn, by_member, by_index, by_part, by_slide, FindsElement, IsAlone, IsAloneForm}
use Rattle.element_paths.proofs.Opening.{IsElement, on-signal, on-local, on-member, on-index, on-part, on-slide, on-none}

-- elements
pub finds-member : (e from : Expr) (k : ℕ) (o : Option Element) → e.form ≡ V.Member from k → FindsElement o from → FindsElement o e
finds-member e from k None is h = λ n t i g. h n t i (on-member n t i e from k is g)
finds-member e from k (Some x) is h = by_member e from k is h

pub finds-part : (e from : Expr) (left right : ℤ) (o : Option Element) → e.form ≡ V.Part from left right → FindsElement o from → FindsElement o e
finds-part e from left right None is h = λ n t i g. h n t i (on-part n t i e from left right is g)
finds-part e from left right (Some x) is h = by_part e from left right is h

pub finds-slide : (e from j : Expr) (m : ℕ) (up : Bool) (o : Option Element) → e.form ≡ V.Slide from j m up → FindsElement o from → FindsElement o e
finds-slide e from j m up None is h = λ n t i g. h n t i (on-slide n t i e from j m up is g)
finds-slide e from j m up (Some x) is h = by_slide e from j m up is h

pub finds-index : (e from j : Expr) (o : Option Element) → e.form ≡ V.Index from j → ((m : ℕ) → from.form ≡ V.Signal m → ⊥) → FindsElement o from → FindsElement o e
finds-index e from j None is other h = λ n t i g. by n t i (on-index n t i e from j is g)
  where
    by : (n : ℕ) (t : SvType) (i : Expr) → IsElement n t i from j ⊎ GoesOn n t i from → ⊥
    by n t i (inl x) = other n x.signal
    by n t i (inr g) = h n t i g
finds-index e from j (Some x) is other h = by_index e from j is h

-- paths
pub alone-none : (e : Expr) (f : Form) → is_path (out-Form e.form) ≡ false → IsAloneForm e f
alone-none e f plain d r n t i g = absurd (on-none n t i e plain g)

pub alone-signal : (e : Expr) (m : ℕ) (f : Form) → e.form ≡ V.Signal m → IsAloneForm e f
alone-signal e m f is d r n t i g = absurd (on-signal n t i e m is g)

pub alone-local : (e : Expr) (m : ℕ) (f : Form) → e.form ≡ V.Local m → IsAloneForm e f
alone-local e m f is d r n t i g = absurd (on-local n t i e m is g)

pub alone-member : (e from inner : Expr) (k : ℕ) → e.form ≡ V.Member from k → IsAlone from inner → IsAloneForm e (V.Member inner k)
alone-member e from inner k is h d r n t i g = of_member e from d inner k is r.form r.of (h n t i (on-member n t i e from k is g))

pub alone-part : (e from inner : Expr) (left right : ℤ) → e.form ≡ V.Part from left right → IsAlone from inner → IsAloneForm e (V.Part inner left right)
alone-part e from inner left right is h d r n t i g = of_part e from d inner left right is r.form r.of (h n t i (on-part n t i e from left right is g))

pub alone-slide : (e from inner j : Expr) (m : ℕ) (up : Bool) → e.form ≡ V.Slide from j m up → IsAlone from inner → IsAloneForm e (V.Slide inner j m up)
alone-slide e from inner j m up is h d r n t i g = of_slide e from d inner j m up is r.form r.of (h n t i (on-slide n t i e from j m up is g))

pub alone-index : (e from inner j : Expr) → e.form ≡ V.Index from j → ((m : ℕ) → from.form ≡ V.Signal m → ⊥) → IsAlone from inner → IsAloneForm e (V.Index inner j)
alone-index e from inner j is other h d r n t i g = by (on-index n t i e from j is g)
  where
    by : IsElement n t i from j ⊎ GoesOn n t i from → IsInner n t i e d
    by (inl x) = absurd (other n x.signal)
    by (inr rest) = of_index e from d inner j is r.form r.of (h n t i rest)

pub alone-element : (e from j : Expr) (m : ℕ) → e.form ≡ V.Index from j → from.form ≡ V.Signal m → IsAloneForm e (V.Local 0)
alone-element e from j m is signal d r n t i g = by (on-index n t i e from j is g)
  where
    by : IsElement n t i from j ⊎ GoesOn n t i from → IsInner n t i e d
    by (inl x) = of_element e from d (is ∙ ap (λ k. V.Index from k) x.index) x.signal x.of r.form r.of
    by (inr rest) = absurd (on-signal n t i from m signal rest)

-- what is made, if it is
pub if-made : {A B : Type 0} (P : A → Type 0) (r : Result A B) (a : A) → r ≡ Ok a → IfOk r P → P a
if-made P r a is h = subst (λ x. IfOk x P) is h

pub same-index : (e from j k : Expr) → k ≡ j → IsAloneForm e (V.Index from j) → IsAloneForm e (V.Index from k)
same-index e from j k is h = subst (λ x. IsAloneForm e (V.Index from x)) (sym is) h

pub same-slide : (e from j k : Expr) (m : ℕ) (up : Bool) → k ≡ j → IsAloneForm e (V.Slide from j m up) → IsAloneForm e (V.Slide from k m up)
same-slide e from j k m up is h = subst (λ x. IsAloneForm e (V.Slide from x m up)) (sym is) h

pub same-part : (e from : Expr) (left right x y : ℤ) → x ≡ left → y ≡ right → IsAloneForm e (V.Part from left right) → IsAloneForm e (V.Part from x y)
same-part e from left right x y is also h = subst (λ z. IsAloneForm e (V.Part from z y)) (sym is) (subst (λ z. IsAloneForm e (V.Part from left z)) (sym also) h)
