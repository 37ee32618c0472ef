-- The numbers of vectors.
use Rattle.std.proofs.Common.{◌≡◌, ℕ, zero, suc, ◌^◌, ◌<◌, ◌≤◌, true, List, [], ◌∷◌, length, drop, get_or, length-drop, arith}
use Rattle.std.proofs.Math.Nat.{pow-suc, pow-le-pow_right}
use Rattle.b4_core.specs.declared.bit.Bit4.{Bit4}
use Rattle.b4_core.specs.declared.bit.Bit4.TheVariants.{Zero, One, X, Z}
use Rattle.b4_core.specs.Bits.{is_one}
use Rattle.b4_core.specs.Vectors.{num, digit}

digit_le : (b : Bit4) → digit b ≤ 1
digit_le Zero = omega arith
digit_le One = omega arith
digit_le X = omega arith
digit_le Z = omega arith

-- a vector's number fits its bits
pub num_lt : (v : List Bit4) → num v < 2 ^ length v
num_lt [] = omega arith
num_lt (b ∷ v) = omega (arith, digit_le b, num_lt v, pow-suc 2 (length v))

-- the bits behind the first leave room for one more digit of a word
pub num_room : (v : List Bit4) (i : ℕ) → 0 < i → length v ≤ 128 → num (drop i v) < 2 ^ 127
num_room v i some narrow =
    let short : length (drop i v) ≤ 127 = omega (arith, length-drop i v) in
    omega (arith, num_lt (drop i v), pow-le-pow_right {n = 2} (omega arith) short)

-- a vector with a bit that is 1 isn't zero
pub num_pos : (v : List Bit4) (i : ℕ) → is_one (get_or v i Zero) ≡ true → 0 < num v
num_pos [] i h = cc
num_pos (Zero ∷ v) zero h = cc
num_pos (One ∷ v) zero h = omega arith
num_pos (X ∷ v) zero h = cc
num_pos (Z ∷ v) zero h = cc
num_pos (b ∷ v) (suc i) h = omega (arith, num_pos v i h)
