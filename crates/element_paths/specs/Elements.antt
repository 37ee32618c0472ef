-- Elements of signals that select paths go on from (IEEE 1800-2017 clause 7.4.5).
use Rattle.std.specs.Prelude.{◌≡◌, ℕ, Bool, ℤ, Option, Some, None}
use Rattle.sv_types.specs.declared.expression.Expr.{Expr}
use Rattle.sv_types.specs.declared.expression.Form.{Form}
use Rattle.sv_types.specs.declared.expression.Form.TheVariants as V
use Rattle.sv_types.specs.declared.types.SvType.{SvType}
use Rattle.memory_paths.specs.Inner.{IsInner}
use Rattle.element_paths.specs.declared.elements.Element.{Element}

-- the signal that an expression is
abbrev pub TellsSignal : Option ℕ → Expr → Type 0
TellsSignal None e = (n : ℕ) → e.form ≡ V.Signal n → ⊥
TellsSignal (Some n) e = e.form ≡ V.Signal n

-- a path on the element with an index of a signal that has a type
pub data GoesOn (n : ℕ) (t : SvType) (i : Expr) : Expr → Type 0 where
  at_element : (e from : Expr) → e.form ≡ V.Index from i → from.form ≡ V.Signal n → from.of ≡ t → GoesOn n t i e
  by_member : (e from : Expr) (k : ℕ) → e.form ≡ V.Member from k → GoesOn n t i from → GoesOn n t i e
  by_index : (e from j : Expr) → e.form ≡ V.Index from j → GoesOn n t i from → GoesOn n t i e
  by_part : (e from : Expr) (left right : ℤ) → e.form ≡ V.Part from left right → GoesOn n t i from → GoesOn n t i e
  by_slide : (e from j : Expr) (m : ℕ) (up : Bool) → e.form ≡ V.Slide from j m up → GoesOn n t i from → GoesOn n t i e

-- the element that a path goes on from, if it does
abbrev pub FindsElement : Option Element → Expr → Type 0
FindsElement None e = (n : ℕ) (t : SvType) (i : Expr) → GoesOn n t i e → ⊥
FindsElement (Some x) e = GoesOn x.signal x.of.now x.index.now e

-- a path with the same steps in the element alone
abbrev pub IsAlone : Expr → Expr → Type 0
IsAlone e d = (n : ℕ) (t : SvType) (i : Expr) → GoesOn n t i e → IsInner n t i e d

-- an expression with a form and another one's type, and such a form
pub record IsRebuilt (e : Expr) (f : Form) (d : Expr) : Type 0 where
  pub form : d.form ≡ f
  pub of : d.of ≡ e.of

abbrev pub IsAloneForm : Expr → Form → Type 0
IsAloneForm e f = (d : Expr) → IsRebuilt e f d → IsAlone e d
