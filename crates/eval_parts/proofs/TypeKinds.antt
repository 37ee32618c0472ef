-- The layouts of types, kind by kind, and the types of expressions.
use Rattle.std.proofs.Common.{◌≡◌, ◌≤◌, ◌<◌, ◌*◌, ℕ, zero, suc, ℤ, Bool, length, ap, arith}
use Rattle.std.proofs.Math.Nat.{suc-mul}
use Rattle.sv_types.specs.declared.types.SvType.{SvType}
use Rattle.sv_types.specs.declared.types.SvType.TheVariants as V
use Rattle.sv_types.proofs.Marks.{repeated-more, repeated-none}
use Rattle.sv_types.proofs.Lengths.{layout-Scalar, layout-PackedArray, layout-Struct, layout-Union, layout-Enum, layout-UnpackedArray, width-PackedArray, width-UnpackedArray}
use Rattle.sv_types.proofs.Heads.{heads}
use Rattle.sv_types.proofs.Widths.{wide-widest}
use Rattle.sv_types.specs.declared.expression.Expr.{Expr}
use Rattle.sv_types.specs.Layouts.{Layout, layout, width_of, count_of}
use Rattle.sv_types.specs.Meanings.{wide, signed}
use Rattle.sv_types.specs.Expressions.{meaning}

pub ruleset kinds = (layout-Scalar, layout-PackedArray, layout-Struct, layout-Union, layout-Enum, layout-UnpackedArray)

pub ruleset repeating = (repeated-more, repeated-none)

pub wide-is : (e : Expr) → wide (meaning e) ≡ width_of e.of
wide-is e = ap (λ (l : Layout). length l.two_state) (heads e).kind

pub signed-is : (e : Expr) → signed (meaning e) ≡ (layout e.of).signed
signed-is e = ap (λ (l : Layout). l.signed) (heads e).kind

pub ruleset alone = (wide-is, signed-is, wide-widest)

-- an element is no wider than all of them
one-of-many : (n w : ℕ) → 0 < n → w ≤ n * w
one-of-many zero w h = absurd (omega arith)
one-of-many (suc n) w h = omega (arith, suc-mul n w)

pub element-PackedArray : (left right : ℤ) (s : Bool) (item : SvType) → width_of (V.PackedArray left right s item) ≤ 4194304 → width_of item ≤ 4194304
element-PackedArray left right s item narrow =
    let h = one-of-many (count_of left right) (width_of item) (omega arith) in
    let e = width-PackedArray left right s item in
    omega arith

pub element-UnpackedArray : (left right : ℤ) (item : SvType) → width_of (V.UnpackedArray left right item) ≤ 4194304 → width_of item ≤ 4194304
element-UnpackedArray left right item narrow =
    let h = one-of-many (count_of left right) (width_of item) (omega arith) in
    let e = width-UnpackedArray left right item in
    omega arith

pub ruleset bounds = (kinds, element-PackedArray, element-UnpackedArray)
