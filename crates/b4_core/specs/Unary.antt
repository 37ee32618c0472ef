-- Unary operators on vectors (clauses 11.4.3 and 11.4.8).
use Rattle.std.specs.Prelude.{ℕ, ◌≤◌, List, map, length, pos, neg_ℤ, if◌then◌else◌}
use Rattle.b4_core.specs.declared.bit.Bit4.{Bit4}
use Rattle.b4_core.specs.declared.operators.UnOp.{UnOp}
use Rattle.b4_core.specs.declared.operators.UnOp.TheVariants.{Not, Neg}
use Rattle.b4_core.specs.Bits.{not4}
use Rattle.b4_core.specs.Vectors.{known, unknown, num, vec}

-- ~v bit by bit; -v is all x unless v is known, else the low bits of the negative
abbrev pub unary_value : UnOp → List Bit4 → List Bit4
unary_value Not v = map not4 v
unary_value Neg v = if known v then vec (length v) (neg_ℤ (pos (num v))) else unknown (length v)

-- the lengths for which an operator is given: any, and for - at most 128 bits
abbrev pub UnaryFitsWord : UnOp → ℕ → Type 0
UnaryFitsWord Not n = Unit {0}
UnaryFitsWord Neg n = n ≤ 128
