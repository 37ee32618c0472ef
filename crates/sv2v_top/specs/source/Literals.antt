-- Decimal numbers and sized binary literals (IEEE 1800-2017 clause 5.7.1).
use Rattle.std.specs.Prelude.{ℕ, ◌+◌, ◌-◌, ◌*◌, ◌==◌, nat_lt, nat_le, Bool, false, not, ◌&&◌, ◌||◌, List, [], ◌∷◌, reverse, length, map, drop, if◌then◌else◌}
use Rattle.std.specs.List.{list_all}
use Rattle.b4_core.specs.declared.bit.Bit4.{Bit4}
use Rattle.b4_core.specs.declared.bit.Bit4.TheVariants.{Zero, One, X, Z}

-- the number after one more decimal digit; an underscore is none
abbrev pub with_digit : ℕ → ℕ → ℕ
with_digit n c = if c == 95 then n else 10 * n + (c - 48)

-- the number of decimal digits behind digits that have given n so far
abbrev pub decimal_from : ℕ → List ℕ → ℕ
decimal_from n [] = n
decimal_from n (c ∷ text) = decimal_from (with_digit n c) text

-- the number of a decimal
abbrev pub decimal : List ℕ → ℕ
decimal text = decimal_from 0 text

-- a decimal digit
abbrev pub is_digit : ℕ → Bool
is_digit c = nat_le 48 c && nat_lt c 58

abbrev pub are_digits : List ℕ → Bool
are_digits text = list_all is_digit text

-- a decimal from 1 without leading zeros and underscores
abbrev pub is_plain_size : List ℕ → Bool
is_plain_size [] = false
is_plain_size (c ∷ text) = not (c == 48) && are_digits (c ∷ text)

-- a binary digit: one of `0 1 x z`
abbrev pub is_bit_digit : ℕ → Bool
is_bit_digit c = (c == 48) || (c == 49) || (c == 120) || (c == 122)

abbrev pub are_bit_digits : List ℕ → Bool
are_bit_digits text = list_all is_bit_digit text

-- and its bit
abbrev pub bit_of_digit : ℕ → Bit4
bit_of_digit c = if c == 48 then Zero else (if c == 49 then One else (if c == 120 then X else Z))

-- `'b` and what stands behind it
abbrev pub has_binary_base : List ℕ → Bool
has_binary_base [] = false
has_binary_base (t ∷ []) = false
has_binary_base (t ∷ b ∷ text) = (t == 39) && (b == 98)

abbrev pub behind_base : List ℕ → List ℕ
behind_base digits = drop 2 digits

-- A literal in the plain form: a size from 1 to 128, `'b`, and exactly so many of `0 1 x z`.
abbrev pub is_plain_literal : List ℕ → List ℕ → Bool
is_plain_literal size digits =
    is_plain_size size && nat_le (decimal size) 128 && has_binary_base digits && (length (behind_base digits) == decimal size) && are_bit_digits (behind_base digits)

-- the bits of a literal in the plain form, least first: its first digit is the most significant
abbrev pub literal_bits : List ℕ → List Bit4
literal_bits digits = map bit_of_digit (reverse (behind_base digits))
