-- Reduction operators (clause 11.4.9).
use Rattle.std.specs.Prelude.{List}
use Rattle.b4_core.specs.declared.bit.Bit4.{Bit4}
use Rattle.b4_core.specs.declared.operators.RedOp.{RedOp}
use Rattle.b4_core.specs.declared.operators.RedOp.TheVariants.{And, Or, Xor, Nand, Nor, Xnor}
use Rattle.b4_core.specs.Bits.{not4}
use Rattle.b4_core.specs.Bitwise.{all4, any4, parity4}

-- the operator between all bits; ~&, ~| and ~^ negate it
abbrev pub reduction : RedOp → List Bit4 → Bit4
reduction And v = all4 v
reduction Or v = any4 v
reduction Xor v = parity4 v
reduction Nand v = not4 (all4 v)
reduction Nor v = not4 (any4 v)
reduction Xnor v = not4 (parity4 v)
