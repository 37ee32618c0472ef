-- Widths and signs of vectors.
use Rattle.std.proofs.Common.{◌≡◌, ℕ, Bool, true, false, ℤ, [], ◌∷◌, length, cond, ap, ◌∙◌, rules}
use Rattle.std.specs.Prelude.{pos, ◌-ℤ◌}
use Rattle.sv_types.specs.declared.types.SvType.{SvType, the_lemmas}
use Rattle.sv_types.specs.declared.types.SvType.TheVariants as V
use Rattle.sv_types.specs.Layouts.{Layout, layout, array_layout, with_bits, width_of, repeated}
use Rattle.expr_type.specs.Shapes.{one_bit, sign_of, vector}

layout-PackedArray : (left right : ℤ) (s : Bool) (item : SvType) → layout (V.PackedArray left right s item) ≡ array_layout left right s (layout item)
layout-PackedArray left right s item = search (rules, the_lemmas)

layout-Scalar : (four s : Bool) → layout (V.Scalar four s) ≡ with_bits s [] (cond four false true ∷ [])
layout-Scalar true s = search (rules, the_lemmas)
layout-Scalar false s = search (rules, the_lemmas)

abbrev pub flat : ℕ → Bool → Layout
flat w s = array_layout (pos w -ℤ pos 1) (pos 0) s (with_bits false [] (false ∷ []))

pub layout-vector : (w : ℕ) (s : Bool) → layout (vector w s) ≡ flat w s
layout-vector w s =
    layout-PackedArray (pos w -ℤ pos 1) (pos 0) s (V.Scalar true false)
    ∙ ap (λ l. array_layout (pos w -ℤ pos 1) (pos 0) s l) (layout-Scalar true false)

pub sign-vector : (w : ℕ) (s : Bool) → sign_of (vector w s) ≡ s
sign-vector w s = ap (λ (l : Layout). l.signed) (layout-vector w s)

pub width-1 : width_of one_bit ≡ 1
width-1 = ap (λ (l : Layout). length l.two_state) (layout-Scalar true false)

pub width-4 : (s : Bool) → width_of (vector 4 s) ≡ 4
unfolding repeated
width-4 s = ap (λ (l : Layout). length l.two_state) (layout-vector 4 s)

pub width-8 : (s : Bool) → width_of (vector 8 s) ≡ 8
unfolding repeated
width-8 s = ap (λ (l : Layout). length l.two_state) (layout-vector 8 s)

pub width-129 : (s : Bool) → width_of (vector 129 s) ≡ 129
unfolding repeated
width-129 s = ap (λ (l : Layout). length l.two_state) (layout-vector 129 s)
