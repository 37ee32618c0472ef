-- Vectors are lists of bits, least first. A number has the bits of its binary digits, in two's complement where it is
-- negative (IEEE 1800-2017, clauses 6.9, 11.3.3 and 11.8.4).
use Rattle.std.specs.Prelude.{ℕ, zero, suc, ◌+◌, ◌-◌, ◌*◌, ◌/◌, ◌%◌, ◌^◌, ◌==◌, ℤ, pos, ◌-ℤ◌, unsigned_abs, Bool, true, false, if◌then◌else◌, List, [], ◌∷◌, ◌++◌, length, take, replicate, slice_index_or, map, zip}
use Rattle.std.specs.Int.{int_rem_euclid}
use Rattle.std.specs.List.{list_all}
use Rattle.b4_core.specs.declared.bit.Bit4.{Bit4}
use Rattle.b4_core.specs.declared.bit.Bit4.TheVariants.{Zero, One, X, Z}
use Rattle.b4_core.specs.Bits.{known4, is_one, bit_of}

-- no bit is x or z
abbrev pub known : List Bit4 → Bool
known v = list_all known4 v

-- w bits that are all x
abbrev pub unknown : ℕ → List Bit4
unknown w = replicate w X

-- the most significant bit
abbrev pub top_bit : List Bit4 → Bit4
top_bit v = slice_index_or v (length v - 1) Zero

-- an operator on bits, applied place by place to two vectors
abbrev pub bitwise : (Bit4 → Bit4 → Bit4) → List Bit4 → List Bit4 → List Bit4
bitwise f a b = map (λ p. f p.0 p.1) (zip a b)

-- 1 for the bit 1, else 0
abbrev pub digit : Bit4 → ℕ
digit Zero = 0
digit One = 1
digit X = 0
digit Z = 0

-- the unsigned number of a vector without x and z
abbrev pub num : List Bit4 → ℕ
num [] = 0
num (b ∷ v) = digit b + 2 * num v

-- its two's complement number: the top bit counts negative
abbrev pub snum : List Bit4 → ℤ
snum v = if is_one (top_bit v) then pos (num v) -ℤ pos (2 ^ length v) else pos (num v)

-- its number as an operand of a signed or an unsigned operation
abbrev pub number : Bool → List Bit4 → ℤ
number true v = snum v
number false v = pos (num v)

-- the w lowest binary digits of n
abbrev pub digits : ℕ → ℕ → List Bit4
digits zero n = []
digits (suc w) n = bit_of (n % 2 == 1) ∷ digits w (n / 2)

-- the low w bits of the number n: the digits of its remainder by 2 to the w, which is never negative
abbrev pub vec : ℕ → ℤ → List Bit4
vec w n = digits w (unsigned_abs (int_rem_euclid n (pos (2 ^ w))))

-- v cut to w bits, or filled up with its top bit if signed, else with 0
abbrev pub ext : ℕ → Bool → List Bit4 → List Bit4
ext w true v = take w v ++ replicate (w - length v) (top_bit v)
ext w false v = take w v ++ replicate (w - length v) Zero
