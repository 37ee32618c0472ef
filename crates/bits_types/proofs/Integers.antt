-- Numbers as values of an `integer`.
use Rattle.std.proofs.Common.{◌≡◌, ℕ, ◌*◌, ◌%◌, pos, true, false, List, length, sym, ap, ◌∙◌}
use Rattle.std.specs.Prelude.{◌-ℤ◌, Result, Ok, Err, IfOk}
use Rattle.std.specs.declared.alloc.AllocError.{AllocError}
use Rattle.b4_core.specs.declared.bit.Bit4.{Bit4}
use Rattle.b4_core.specs.Vectors.{vec}
use Rattle.b4_core.proofs.Digits.{digits_remainder}
use Rattle.b4_core.proofs.TwosComplement.{vec_pos}
use Rattle.sv_types.specs.declared.types.SvType.{SvType}
use Rattle.sv_types.specs.declared.types.SvType.TheVariants.{Scalar}
use Rattle.sv_types.specs.declared.expression.Form.TheVariants as F
use Rattle.sv_types.specs.Layouts.{Layout, width_of}
use Rattle.sv_types.specs.Values.{value_of_bits}
use Rattle.sv_types.proofs.Lengths.{layout-Scalar, width-PackedArray}
use Rattle.sv_types.proofs.OperatorLengths.{length-vec}
use Rattle.expr_type.specs.declared.operand.Valued.{Valued}
use Rattle.expr_type.specs.Forms.{bits_number}
use Rattle.expr_type.specs.Names.{Source}
use Rattle.expr_type.specs.Operators.{by_itself}
use Rattle.expr_type.specs.Shapes.{integer}

pub width-integer : width_of integer ≡ 32
width-integer =
    width-PackedArray (pos 32 -ℤ pos 1) (pos 0) true (Scalar true false) ∙ ap (λ (l : Layout). 32 * length l.two_state) (layout-Scalar true false)

pub width-same : (t : SvType) → t ≡ integer → width_of t ≡ 32
width-same t e = ap width_of e ∙ width-integer

pub ruleset integers = (width-integer, width-same, length-vec)

-- the low 32 bits are those of the number
low-vec : (w : ℕ) → vec 32 (pos (w % 4294967296)) ≡ vec 32 (pos w)
low-vec w = vec_pos 32 (w % 4294967296) ∙ digits_remainder 32 w ∙ sym (vec_pos 32 w)

pub low-bits : (k : Source) (name w : ℕ) → bits_number k name (w % 4294967296) ≡ bits_number k name w
low-bits k name w =
    ap (λ (v : List Bit4). by_itself k name integer (F.Constant (value_of_bits integer v))) (low-vec w)

pub low-number : (r : Result Valued AllocError) (k : Source) (name w n : ℕ) → n ≡ w % 4294967296
    → IfOk r (λ v. v ≡ bits_number k name n) → IfOk r (λ v. v ≡ bits_number k name w)
low-number (Ok v) k name w n e h = h ∙ ap (bits_number k name) e ∙ low-bits k name w
low-number (Err x) k name w n e h = tt
