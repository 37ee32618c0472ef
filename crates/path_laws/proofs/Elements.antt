-- The types of part-selects are arrays of the elements.
use Rattle.std.proofs.Common.{◌≡◌, ◌⊎◌, inl, inr, ◌-◌, ◌≤◌, ℤ, Bool, true, false, cond, not, length, refl, arith, ap, sym, ◌∙◌, subst, true≢false}
use Rattle.std.specs.Prelude.{pos, ◌-ℤ◌, int_le, unsigned_abs}
use Rattle.std.proofs.lemmas.Int.{ints}
use Rattle.sv_types.specs.declared.types.Member.{Member}
use Rattle.sv_types.specs.declared.types.SvType.{SvType}
use Rattle.sv_types.specs.declared.types.SvType.TheVariants as V
use Rattle.sv_types.specs.Layouts.{Layout, layout, width_of}
use Rattle.sv_types.proofs.TypeShapes.{Kinds, by-type}
use Rattle.sv_types.proofs.Lengths.{layout-Scalar, layout-PackedArray, layout-UnpackedArray, layout-Struct, layout-Union, layout-Enum}
use Rattle.expr_type.specs.Shapes.{element_of}
use Rattle.expr_type.specs.Selects.{part_type, goes_wrong}
use Rattle.target_laws.specs.Elements.{IsPartOf, IsSlideOf}
use Rattle.path_laws.proofs.Bases.{element-Scalar, element-PackedArray, element-UnpackedArray, element-Struct, element-Union, element-Enum}

-- elements have the bits that the layout says
abbrev AnyMember : Member → Type 0
AnyMember m = Unit {0}

abbrev SameBits : SvType → Type 0
SameBits t = width_of (element_of t) ≡ length (layout t).element.two_state

bits-by : (t of : SvType) (from : Layout) → element_of t ≡ of → layout t ≡ from → width_of of ≡ length from.element.two_state → SameBits t
bits-by t of from is lay same = ap width_of is ∙ same ∙ ap (λ (l : Layout). length l.element.two_state) (sym lay)

one-bit : (four : Bool) → width_of (V.Scalar four false) ≡ 1
one-bit four = ap (λ (l : Layout). length l.two_state) (layout-Scalar four false)

kinds : Kinds SameBits AnyMember
kinds = record {
  member = λ m h. tt;
  scalar = λ four s. bits-by _ _ _ (element-Scalar four s) (layout-Scalar four s) (one-bit four);
  packed = λ l r s item h. bits-by _ _ _ (element-PackedArray l r s item) (layout-PackedArray l r s item) refl;
  structure = λ id packed s ms h. bits-by _ _ _ (element-Struct id packed s ms) (layout-Struct id packed s ms) (one-bit _);
  union = λ id s ms h. bits-by _ _ _ (element-Union id s ms) (layout-Union id s ms) (one-bit _);
  enumeration = λ id base names h. bits-by _ _ _ (element-Enum id base names) (layout-Enum id base names) h;
  unpacked = λ l r item h. bits-by _ _ _ (element-UnpackedArray l r item) (layout-UnpackedArray l r item) refl;
}

element-bits : (t : SvType) → SameBits t
element-bits = by-type SameBits AnyMember kinds

-- `[left:right]`
one-bound : (left right : ℤ) → int_le left right ≡ true → int_le right left ≡ true → left ≡ right
one-bound left right h g = grind (arith, ints)

not-false : (b : Bool) → not b ≡ false → b ≡ true
not-false true h = refl
not-false false h = absurd (true≢false h)

goes-up : (left right : ℤ) (b : Bool) → int_le right left ≡ b → int_le left right ≡ true → (b ≡ false) ⊎ (left ≡ right)
goes-up left right true is h = inr (one-bound left right h is)
goes-up left right false is h = inl refl

goes-as : (left right : ℤ) (b : Bool) → cond b (not (int_le right left)) (not (int_le left right)) ≡ false → (int_le right left ≡ b) ⊎ (left ≡ right)
goes-as left right true h = inl (not-false (int_le right left) h)
goes-as left right false h = goes-up left right (int_le right left) refl (not-false (int_le left right) h)

pub part-of : (t : SvType) (left right : ℤ) → goes_wrong t left right ≡ false → IsPartOf (layout (part_type t left right)) (layout t) left right
part-of t left right right_way =
    subst (λ l. IsPartOf l (layout t) left right) (sym (layout-PackedArray left right false (element_of t)))
    (record { left_is = refl; right_is = refl; element = element-bits t; goes = goes-as left right (int_le (layout t).right (layout t).left) right_way })

-- `[base +: n]` and `[base -: n]`
some-bits : (n : ℤ) → int_le (pos 1) n ≡ true → 1 ≤ unsigned_abs n
some-bits n h = grind (arith, ints)

last-bit : (n : ℤ) → int_le (pos 1) n ≡ true → n -ℤ pos 1 ≡ pos (unsigned_abs n - 1)
last-bit n h = grind (arith, ints)

pub slide-of : (t : SvType) (n : ℤ) → int_le (pos 1) n ≡ true → IsSlideOf (layout (part_type t (n -ℤ pos 1) (pos 0))) (layout t) (unsigned_abs n)
slide-of t n some =
    subst (λ l. IsSlideOf l (layout t) (unsigned_abs n)) (sym (layout-PackedArray (n -ℤ pos 1) (pos 0) false (element_of t)))
    (record { some = some-bits n some; left_is = last-bit n some; right_is = refl; element = element-bits t })
