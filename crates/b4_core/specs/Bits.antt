-- Operators on single bits, by cases (IEEE 1800-2017, clauses 11.4.8, 11.4.11 and 6.3.2).
use Rattle.std.specs.Prelude.{Bool, true, false}
use Rattle.b4_core.specs.declared.bit.Bit4.{Bit4}
use Rattle.b4_core.specs.declared.bit.Bit4.TheVariants.{Zero, One, X, Z}

-- 0 or 1
abbrev pub known4 : Bit4 → Bool
known4 Zero = true
known4 One = true
known4 X = false
known4 Z = false

-- exactly 1
abbrev pub is_one : Bit4 → Bool
is_one Zero = false
is_one One = true
is_one X = false
is_one Z = false

-- the bit of a test
abbrev pub bit_of : Bool → Bit4
bit_of false = Zero
bit_of true = One

-- ~a
abbrev pub not4 : Bit4 → Bit4
not4 Zero = One
not4 One = Zero
not4 X = X
not4 Z = X

-- a & b: 0 where either is 0, 1 where both are 1, else x
abbrev pub and4 : Bit4 → Bit4 → Bit4
and4 Zero b = Zero
and4 One Zero = Zero
and4 One One = One
and4 One X = X
and4 One Z = X
and4 X Zero = Zero
and4 X One = X
and4 X X = X
and4 X Z = X
and4 Z Zero = Zero
and4 Z One = X
and4 Z X = X
and4 Z Z = X

-- a | b: 1 where either is 1, 0 where both are 0, else x
abbrev pub or4 : Bit4 → Bit4 → Bit4
or4 One b = One
or4 Zero One = One
or4 Zero Zero = Zero
or4 Zero X = X
or4 Zero Z = X
or4 X One = One
or4 X Zero = X
or4 X X = X
or4 X Z = X
or4 Z One = One
or4 Z Zero = X
or4 Z X = X
or4 Z Z = X

-- a ^ b: x unless both are known
abbrev pub xor4 : Bit4 → Bit4 → Bit4
xor4 Zero Zero = Zero
xor4 Zero One = One
xor4 Zero X = X
xor4 Zero Z = X
xor4 One Zero = One
xor4 One One = Zero
xor4 One X = X
xor4 One Z = X
xor4 X b = X
xor4 Z b = X

-- a ~^ b
abbrev pub xnor4 : Bit4 → Bit4 → Bit4
xnor4 a b = not4 (xor4 a b)

-- what ?: makes of its two arms where the condition is unknown: 0 or 1 where both are, else x
abbrev pub merge4 : Bit4 → Bit4 → Bit4
merge4 Zero Zero = Zero
merge4 Zero One = X
merge4 Zero X = X
merge4 Zero Z = X
merge4 One Zero = X
merge4 One One = One
merge4 One X = X
merge4 One Z = X
merge4 X b = X
merge4 Z b = X

-- a bit as it is stored in a two-state type: 0 where it is x or z
abbrev pub two_state4 : Bit4 → Bit4
two_state4 Zero = Zero
two_state4 One = One
two_state4 X = Zero
two_state4 Z = Zero

-- a === b, exactly the same bit
abbrev pub same4 : Bit4 → Bit4 → Bool
same4 Zero Zero = true
same4 Zero One = false
same4 Zero X = false
same4 Zero Z = false
same4 One Zero = false
same4 One One = true
same4 One X = false
same4 One Z = false
same4 X Zero = false
same4 X One = false
same4 X X = true
same4 X Z = false
same4 Z Zero = false
same4 Z One = false
same4 Z X = false
same4 Z Z = true
