-- Comparisons of two vectors of one length (clauses 11.4.4, 11.4.5 and 11.4.6).
use Rattle.std.specs.Prelude.{List, ℤ, int_lt, int_le, Bool, ◌&&◌, if◌then◌else◌}
use Rattle.b4_core.specs.declared.bit.Bit4.{Bit4}
use Rattle.b4_core.specs.declared.bit.Bit4.TheVariants.{One, X}
use Rattle.b4_core.specs.declared.operators.OrdOp.{OrdOp}
use Rattle.b4_core.specs.declared.operators.OrdOp.TheVariants.{Less, LessEqual, Greater, GreaterEqual}
use Rattle.b4_core.specs.declared.operators.EqOp.{EqOp}
use Rattle.b4_core.specs.declared.operators.EqOp.TheVariants.{Logic, Case, Wild}
use Rattle.b4_core.specs.Bits.{xnor4, known4, bit_of}
use Rattle.b4_core.specs.Vectors.{bitwise, known, number}
use Rattle.b4_core.specs.Bitwise.{all4, same_bits}

-- whether two numbers stand in the order
abbrev pub in_order : OrdOp → ℤ → ℤ → Bool
in_order Less x y = int_lt x y
in_order LessEqual x y = int_le x y
in_order Greater x y = int_lt y x
in_order GreaterEqual x y = int_le y x

-- x unless both operands are known
abbrev pub order_value : OrdOp → Bool → List Bit4 → List Bit4 → Bit4
order_value op signed a b = if known a && known b then bit_of (in_order op (number signed a) (number signed b)) else X

-- a place of ==?: x and z on the right stand for any bit
abbrev pub wild4 : Bit4 → Bit4 → Bit4
wild4 p q = if known4 q then xnor4 p q else One

-- == is 0 where two known bits differ, else x where a bit is unknown, else 1; === is exact; ==? leaves out wild places
abbrev pub equality : EqOp → List Bit4 → List Bit4 → Bit4
equality Logic a b = all4 (bitwise xnor4 a b)
equality Case a b = bit_of (same_bits a b)
equality Wild a b = all4 (bitwise wild4 a b)
