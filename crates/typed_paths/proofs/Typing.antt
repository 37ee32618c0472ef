-- Typed paths, made of what their last steps select from.
use Rattle.std.proofs.Common.{◌≡◌, ◌⊎◌, inl, inr, ℕ, ◌-◌, ◌≤◌, Bool, true, false, not, ℤ, pos, ◌-ℤ◌, length, List, [], ◌∷◌, refl, arith, sym, ◌∙◌, ap, subst, true≢false}
use Rattle.std.proofs.lemmas.Int.{ints, to_z-of_z}
use mathlib.Core.Bool.{beq}
use mir.Val.{SFits, to_z, of_z}
use mir.Syntax.{w64}
use Rattle.sv_types.specs.declared.expression.Expr.{Expr}
use Rattle.sv_types.specs.declared.expression.Form.{out-Form}
use Rattle.sv_types.specs.declared.expression.Form.TheVariants as V
use Rattle.sv_types.specs.declared.types.EnumName.{EnumName}
use Rattle.sv_types.specs.declared.types.Member.{Member}
use Rattle.sv_types.specs.declared.types.SvType.{SvType, SvType-F, fold-roll-SvType}
use Rattle.sv_types.specs.declared.types.SvType.TheVariants as K
use Rattle.sv_types.specs.Layouts.{layout}
use Rattle.sv_types.specs.Windows.{falls}
use Rattle.sv_types.specs.Surroundings.{local_number}
use Rattle.eval_parts.specs.Steps.{is_path}
use Rattle.typed_paths.specs.Typed.{IsTypedPath, of_signal, of_local, of_member, of_index, of_part, of_slide, IsTyped, has_elements, elements_step, any_member}
use Rattle.typed_paths.specs.Tests.{Tells, IsPartType, IsSlideType, EndsInPart}
use Rattle.typed_paths.proofs.Opening.{of-Signal, of-Local, of-Member, of-Index, of-Part, of-Slide, no-path}

-- which types have elements
pub elements-Scalar : (four s : Bool) → has_elements (K.Scalar four s) ≡ true
elements-Scalar four s = ap has_elements (sym (K.rolls-Scalar four s)) ∙ fold-roll-SvType Bool Bool elements_step any_member (SvType-F.Scalar four s)

pub elements-PackedArray : (left right : ℤ) (s : Bool) (item : SvType) → has_elements (K.PackedArray left right s item) ≡ true
elements-PackedArray left right s item = ap has_elements (sym (K.rolls-PackedArray left right s item)) ∙ fold-roll-SvType Bool Bool elements_step any_member (SvType-F.PackedArray left right s item)

pub elements-Struct : (id : ℕ) (packed s : Bool) (ms : List Member) → has_elements (K.Struct id packed s ms) ≡ packed
elements-Struct id packed s ms = ap has_elements (sym (K.rolls-Struct id packed s ms)) ∙ fold-roll-SvType Bool Bool elements_step any_member (SvType-F.Struct id packed s ms)

pub elements-Union : (id : ℕ) (s : Bool) (ms : List Member) → has_elements (K.Union id s ms) ≡ true
elements-Union id s ms = ap has_elements (sym (K.rolls-Union id s ms)) ∙ fold-roll-SvType Bool Bool elements_step any_member (SvType-F.Union id s ms)

pub elements-Enum : (id : ℕ) (base : SvType) (names : List EnumName) → has_elements (K.Enum id base names) ≡ has_elements base
elements-Enum id base names = ap has_elements (sym (K.rolls-Enum id base names)) ∙ fold-roll-SvType Bool Bool elements_step any_member (SvType-F.Enum id base names)

pub elements-UnpackedArray : (left right : ℤ) (item : SvType) → has_elements (K.UnpackedArray left right item) ≡ true
elements-UnpackedArray left right item = ap has_elements (sym (K.rolls-UnpackedArray left right item)) ∙ fold-roll-SvType Bool Bool elements_step any_member (SvType-F.UnpackedArray left right item)

pub ruleset elements = (elements-Scalar, elements-PackedArray, elements-Struct, elements-Union, elements-Enum, elements-UnpackedArray)

-- whether the last step is a part-select
pub ends-plain : (e : Expr) → is_path (out-Form e.form) ≡ false → EndsInPart false e
ends-plain e plain number t xs part path = absurd (no-path number t e xs part plain path)

pub ends-Signal : (e : Expr) (n : ℕ) → e.form ≡ V.Signal n → EndsInPart false e
ends-Signal e n is number t xs part path = (of-Signal number t e n xs part is path).whole

pub ends-Local : (e : Expr) (n : ℕ) → e.form ≡ V.Local n → EndsInPart false e
ends-Local e n is number t xs part path = (of-Local number t e n xs part is path).whole

pub ends-Member : (e from : Expr) (k : ℕ) → e.form ≡ V.Member from k → EndsInPart false e
ends-Member e from k is number t xs part path = (of-Member number t e from k xs part is path).whole

pub ends-Index : (e from i : Expr) → e.form ≡ V.Index from i → EndsInPart false e
ends-Index e from i is number t xs part path = (of-Index number t e from i xs part is path).is_part

pub ends-Part : (e from : Expr) (left right : ℤ) → e.form ≡ V.Part from left right → EndsInPart true e
ends-Part e from left right is number t xs part path = (of-Part number t e from left right xs part is path).is_part

pub ends-Slide : (e from i : Expr) (n : ℕ) (up : Bool) → e.form ≡ V.Slide from i n up → EndsInPart true e
ends-Slide e from i n up is number t xs part path = (of-Slide number t e from i n up xs part is path).step.is_part

-- paths
pub typed-Signal : (e : Expr) (n : ℕ) → e.form ≡ V.Signal n → IsTyped e
typed-Signal e n is = record { number = n; of = e.of; indices = []; part = false; path = of_signal e n is refl refl }

pub typed-Local : (e : Expr) (n : ℕ) → e.form ≡ V.Local n → IsTyped e
typed-Local e n is = record { number = local_number n; of = e.of; indices = []; part = false; path = of_local e n is refl refl }

pub typed-Member : (e from : Expr) (k : ℕ) (b : Bool) → e.form ≡ V.Member from k → EndsInPart false from → Tells b (IsTyped from) → Tells b (IsTyped e)
typed-Member e from k true is ends h =
    let whole = ends h.number h.of h.indices h.part h.path in
    record { number = h.number; of = h.of; indices = h.indices; part = false; path = of_member e from k h.indices is (subst (λ p. IsTypedPath h.number h.of from h.indices p) whole h.path) }
typed-Member e from k false is ends h = λ p. h (record { number = p.number; of = p.of; indices = p.indices; part = false; path = (of-Member p.number p.of e from k p.indices p.part is p.path).path })

pub typed-Index : (e from i : Expr) (b : Bool) → e.form ≡ V.Index from i → has_elements from.of ≡ true → Tells b (IsTyped from) → Tells b (IsTyped e)
typed-Index e from i true is has h = record { number = h.number; of = h.of; indices = record { index = i; in_part = h.part } ∷ h.indices; part = false; path = of_index e from i h.indices h.part is has h.path }
typed-Index e from i false is has h = λ p.
    (let o = of-Index p.number p.of e from i p.indices p.part is p.path in h (record { number = p.number; of = p.of; indices = o.others; part = o.inner; path = o.path }))

pub typed-Part : (e from : Expr) (left right : ℤ) (b : Bool) → e.form ≡ V.Part from left right → IsPartType e.of from.of left right → Tells b (IsTyped from) → Tells b (IsTyped e)
typed-Part e from left right true is bounds h = record { number = h.number; of = h.of; indices = h.indices; part = true; path = of_part e from left right h.indices h.part is bounds.has bounds.is h.path }
typed-Part e from left right false is bounds h = λ p.
    (let o = of-Part p.number p.of e from left right p.indices p.part is p.path in h (record { number = p.number; of = p.of; indices = p.indices; part = o.inner; path = o.path }))

pub typed-Slide : (e from i : Expr) (n : ℕ) (up : Bool) (b : Bool) → e.form ≡ V.Slide from i n up → IsSlideType e.of from.of n → Tells b (IsTyped from) → Tells b (IsTyped e)
typed-Slide e from i n up true is bounds h =
    record { number = h.number; of = h.of; indices = record { index = i; in_part = h.part } ∷ h.indices; part = true; path = of_slide e from i n up h.indices h.part is bounds.has bounds.is h.path }
typed-Slide e from i n up false is bounds h = λ p.
    (let o = (of-Slide p.number p.of e from i n up p.indices p.part is p.path).step in h (record { number = p.number; of = p.of; indices = o.others; part = o.inner; path = o.path }))

-- what isn't one
pub no-plain : (e : Expr) → is_path (out-Form e.form) ≡ false → IsTyped e → ⊥
no-plain e plain p = no-path p.number p.of e p.indices p.part plain p.path

pub no-member : (e from : Expr) (k : ℕ) → e.form ≡ V.Member from k → EndsInPart true from → IsTyped e → ⊥
no-member e from k is ends p = true≢false (sym (ends p.number p.of p.indices false (of-Member p.number p.of e from k p.indices p.part is p.path).path))

pub no-index : (e from i : Expr) → e.form ≡ V.Index from i → false ≡ has_elements from.of → IsTyped e → ⊥
no-index e from i is none p = true≢false (sym (of-Index p.number p.of e from i p.indices p.part is p.path).has ∙ sym none)

pub no-part : (e from : Expr) (left right : ℤ) → e.form ≡ V.Part from left right → (IsPartType e.of from.of left right → ⊥) → IsTyped e → ⊥
no-part e from left right is none p = none (of-Part p.number p.of e from left right p.indices p.part is p.path).type

pub no-slide : (e from i : Expr) (n : ℕ) (up : Bool) → e.form ≡ V.Slide from i n up → (IsSlideType e.of from.of n → ⊥) → IsTyped e → ⊥
no-slide e from i n up is none p = none (of-Slide p.number p.of e from i n up p.indices p.part is p.path).type

-- numbers and tests as they are compared
pub one-number : (x y : ℤ) → SFits w64 x → SFits w64 y → of_z w64 x ≡ of_z w64 y → x ≡ y
one-number x y x_fits y_fits e = sym (to_z-of_z w64 x x_fits) ∙ ap (to_z w64) e ∙ to_z-of_z w64 y y_fits

pub one-test : (a b : Bool) → not (beq a b) ≡ false → a ≡ b
one-test true true h = refl
one-test true false h = absurd (true≢false h)
one-test false true h = absurd (true≢false h)
one-test false false h = refl

two-tests : (a b : Bool) → not (beq a b) ≡ true → a ≡ b → ⊥
two-tests true true h e = true≢false (sym h)
two-tests true false h e = true≢false e
two-tests false true h e = true≢false (sym e)
two-tests false false h e = true≢false (sym h)

pub tells-no : (b : Bool) (P : Type 0) → b ≡ false → (P → ⊥) → Tells b P
tells-no b P is none = subst (λ x. Tells x P) (sym is) none

-- types of part-selects
module _ (t from : SvType) (left right : ℤ) where
  pub part-none : false ≡ has_elements from → IsPartType t from left right → ⊥
  part-none none p = true≢false (sym p.has ∙ sym none)

  pub part-left : (x : ℤ) → x ≡ (layout t).left → (x ≡ left → ⊥) → IsPartType t from left right → ⊥
  part-left x is other p = other (is ∙ p.is.left_is)

  pub part-right : (x : ℤ) → x ≡ (layout t).right → (x ≡ right → ⊥) → IsPartType t from left right → ⊥
  part-right x is other p = other (is ∙ p.is.right_is)

  pub part-element : (x y : ℕ) → x ≡ length (layout t).element.two_state → y ≡ length (layout from).element.two_state → (x ≡ y → ⊥) → IsPartType t from left right → ⊥
  part-element x y is own other p = other (is ∙ p.is.element ∙ sym own)

  pub part-goes : (f w : Bool) → f ≡ falls (layout t) → w ≡ falls (layout from) → not (beq f w) ≡ true → (left ≡ right → ⊥) → IsPartType t from left right → ⊥
  part-goes f w is own other apart p = by p.is.goes
    where
      by : (falls (layout t) ≡ falls (layout from)) ⊎ (left ≡ right) → ⊥
      by (inl e) = two-tests f w other (is ∙ e ∙ sym own)
      by (inr e) = apart e

  pub part-is : true ≡ has_elements from → (layout t).left ≡ left → (layout t).right ≡ right → length (layout t).element.two_state ≡ length (layout from).element.two_state
      → (falls (layout t) ≡ falls (layout from)) ⊎ (left ≡ right) → IsPartType t from left right
  part-is has l r e goes = record { has = sym has; is = record { left_is = l; right_is = r; element = e; goes = goes } }

module _ (t from : SvType) (n : ℕ) where
  pub slide-none : false ≡ has_elements from → IsSlideType t from n → ⊥
  slide-none none p = true≢false (sym p.has ∙ sym none)

  pub slide-zero : n ≡ 0 → IsSlideType t from n → ⊥
  slide-zero none p = (let some = p.is.some in omega arith)

  pub slide-left : (x y : ℤ) → x ≡ (layout t).left → y ≡ pos n -ℤ pos 1 → 1 ≤ n → (x ≡ y → ⊥) → IsSlideType t from n → ⊥
  slide-left x y is last some other p = other (is ∙ p.is.left_is ∙ by n some ∙ sym last)
    where
      by : (m : ℕ) → 1 ≤ m → pos (m - 1) ≡ pos m -ℤ pos 1
      by m h = omega (arith, ints)

  pub slide-right : (x : ℤ) → x ≡ (layout t).right → (x ≡ pos 0 → ⊥) → IsSlideType t from n → ⊥
  slide-right x is other p = other (is ∙ p.is.right_is)

  pub slide-element : (x y : ℕ) → x ≡ length (layout t).element.two_state → y ≡ length (layout from).element.two_state → (x ≡ y → ⊥) → IsSlideType t from n → ⊥
  slide-element x y is own other p = other (is ∙ p.is.element ∙ sym own)

  pub slide-is : true ≡ has_elements from → 1 ≤ n → (layout t).left ≡ pos n -ℤ pos 1 → (layout t).right ≡ pos 0 → length (layout t).element.two_state ≡ length (layout from).element.two_state
      → IsSlideType t from n
  slide-is has some l r e = record { has = sym has; is = record { some = some; left_is = l ∙ by n some; right_is = r; element = e } }
    where
      by : (m : ℕ) → 1 ≤ m → pos m -ℤ pos 1 ≡ pos (m - 1)
      by m h = omega (arith, ints)
