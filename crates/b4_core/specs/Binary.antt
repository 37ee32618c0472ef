-- Binary operators on two vectors of one length (clauses 11.4.3 and 11.4.8).
use Rattle.std.specs.Prelude.{ℕ, ◌≤◌, List, length, ℤ, ◌+ℤ◌, ◌-ℤ◌, ◌*ℤ◌, int_div, int_rem, ◌==◌, Bool, ◌&&◌, if◌then◌else◌}
use Rattle.b4_core.specs.declared.bit.Bit4.{Bit4}
use Rattle.b4_core.specs.declared.operators.BinOp.{BinOp}
use Rattle.b4_core.specs.declared.operators.BinOp.TheVariants.{And, Or, Xor, Xnor, Add, Sub, Mul, Div, Rem}
use Rattle.b4_core.specs.Bits.{and4, or4, xor4, xnor4}
use Rattle.b4_core.specs.Vectors.{bitwise, known, unknown, num, number, vec}

-- all x unless both operands are known, else the low bits of what f makes of their numbers
abbrev pub arithmetic : (ℤ → ℤ → ℤ) → Bool → List Bit4 → List Bit4 → List Bit4
arithmetic f signed a b = if known a && known b then vec (length a) (f (number signed a) (number signed b)) else unknown (length a)

-- all x also where the divisor is zero
abbrev pub division : (ℤ → ℤ → ℤ) → Bool → List Bit4 → List Bit4 → List Bit4
division f signed a b = if num b == 0 then unknown (length a) else arithmetic f signed a b

-- a quotient is rounded toward zero, and a remainder has the sign of a
abbrev pub binary_value : BinOp → Bool → List Bit4 → List Bit4 → List Bit4
binary_value And signed a b = bitwise and4 a b
binary_value Or signed a b = bitwise or4 a b
binary_value Xor signed a b = bitwise xor4 a b
binary_value Xnor signed a b = bitwise xnor4 a b
binary_value Add signed a b = arithmetic (λ x y. x +ℤ y) signed a b
binary_value Sub signed a b = arithmetic (λ x y. x -ℤ y) signed a b
binary_value Mul signed a b = arithmetic (λ x y. x *ℤ y) signed a b
binary_value Div signed a b = division int_div signed a b
binary_value Rem signed a b = division int_rem signed a b

-- the lengths for which an operator is given: any, and for arithmetic at most 128 bits
abbrev pub BinaryFitsWord : BinOp → ℕ → Type 0
BinaryFitsWord And n = Unit {0}
BinaryFitsWord Or n = Unit {0}
BinaryFitsWord Xor n = Unit {0}
BinaryFitsWord Xnor n = Unit {0}
BinaryFitsWord Add n = n ≤ 128
BinaryFitsWord Sub n = n ≤ 128
BinaryFitsWord Mul n = n ≤ 128
BinaryFitsWord Div n = n ≤ 128
BinaryFitsWord Rem n = n ≤ 128
