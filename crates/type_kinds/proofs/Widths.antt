-- The widths of types that operators give.
use Rattle.std.proofs.Common.{◌≡◌, ◌≤◌, ◌*◌, ◌+◌, ℕ, zero, suc, max, ℤ, Bool, true, false, length, ap, ◌∙◌, refl, rules, arith}
use Rattle.std.specs.Prelude.{pos, ◌-ℤ◌, unsigned_abs}
use Rattle.std.proofs.lemmas.Int.{ints}
use Rattle.sv_types.specs.declared.types.SvType.{SvType}
use Rattle.sv_types.specs.declared.types.SvType.TheVariants as V
use Rattle.sv_types.proofs.Lengths.{layout-Scalar, width-PackedArray}
use Rattle.sv_types.specs.Layouts.{Layout, layout, width_of, count_of}
use Rattle.expr_type.specs.Shapes.{one_bit, vector}

pub width-one_bit : width_of one_bit ≡ 1
width-one_bit = ap (λ (l : Layout). length l.two_state) (layout-Scalar true false)

-- an index of 0 at the right
count-below : (w : ℕ) → count_of (pos w -ℤ pos 1) (pos 0) ≤ max w 2
count-below w = omega (arith, ints)

pub width-vector : (w : ℕ) (s : Bool) → width_of (vector w s) ≤ max w 2
width-vector w s =
    let count = count_of (pos w -ℤ pos 1) (pos 0) in
    let e : width_of (vector w s) ≡ count * 1 =
    width-PackedArray (pos w -ℤ pos 1) (pos 0) s (V.Scalar true false) ∙ ap (λ n. count * n) width-one_bit in
    let c : count ≤ max w 2 = count-below w in
    omega (arith, e, c)

pub ruleset vectors = (width-one_bit, width-vector)
