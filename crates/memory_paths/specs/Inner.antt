-- Select paths that go on from an element of an array, and the same in the element alone (IEEE 1800-2017 clauses 7.4.5 and 11.5.1).
use Rattle.std.specs.Prelude.{◌≡◌, ℕ, Bool, ℤ}
use Rattle.sv_types.specs.declared.expression.Expr.{Expr}
use Rattle.sv_types.specs.declared.expression.Form.TheVariants as V
use Rattle.sv_types.specs.declared.types.SvType.{SvType}

-- A path on the element with an index of a signal that has a type, and a path with the same steps behind it on a local that has the
-- element's type.
pub data IsInner (n : ℕ) (t : SvType) (i : Expr) : Expr → Expr → Type 0 where
  of_element : (e from d : Expr) → e.form ≡ V.Index from i → from.form ≡ V.Signal n → from.of ≡ t → d.form ≡ V.Local 0 → d.of ≡ e.of → IsInner n t i e d
  of_member : (e from d inner : Expr) (k : ℕ) → e.form ≡ V.Member from k → d.form ≡ V.Member inner k → d.of ≡ e.of → IsInner n t i from inner → IsInner n t i e d
  of_index : (e from d inner j : Expr) → e.form ≡ V.Index from j → d.form ≡ V.Index inner j → d.of ≡ e.of → IsInner n t i from inner → IsInner n t i e d
  of_part : (e from d inner : Expr) (left right : ℤ) → e.form ≡ V.Part from left right → d.form ≡ V.Part inner left right → d.of ≡ e.of → IsInner n t i from inner → IsInner n t i e d
  of_slide : (e from d inner j : Expr) (m : ℕ) (up : Bool) → e.form ≡ V.Slide from j m up → d.form ≡ V.Slide inner j m up → d.of ≡ e.of → IsInner n t i from inner → IsInner n t i e d
