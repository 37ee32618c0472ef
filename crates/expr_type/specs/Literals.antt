-- Numbers as they are written (IEEE 1800-2017 clause 5.7.1).
use Rattle.std.specs.Prelude.{ℕ, ◌+◌, ◌-◌, ◌*◌, ◌^◌, Bool, true, false, ◌&&◌, ◌||◌, ◌==◌, nat_lt, nat_le, not, cond, pos, List, [], ◌∷◌, ◌++◌, length, take, drop, flat_map, filter, replicate, reverse}
use Rattle.std.specs.List.{list_all}
use Rattle.b4_core.specs.declared.bit.Bit4.{Bit4}
use Rattle.b4_core.specs.declared.bit.Bit4.TheVariants.{Zero, One, X, Z}
use Rattle.b4_core.specs.Bits.{known4, is_one}
use Rattle.b4_core.specs.Vectors.{digits, vec}

-- characters in either case
abbrev pub is_letter : ℕ → ℕ → Bool
is_letter lower c = (c == lower) || (c + 32 == lower)

abbrev pub is_x : ℕ → Bool
is_x c = is_letter 120 c

-- `z`, or `?`
abbrev pub is_z : ℕ → Bool
is_z c = is_letter 122 c || (c == 63)

abbrev pub digit_value : ℕ → ℕ
digit_value c = cond (nat_le c 57) (c - 48) (cond (nat_le 97 c) (c - 87) (c - 55))

-- a digit that isn't `_` or a blank
abbrev pub is_digit : ℕ → Bool
is_digit c = not ((c == 95) || ((c == 32) || (c == 9)))

-- a decimal number
abbrev pub number_from : ℕ → List ℕ → ℕ
number_from n [] = n
number_from n (c ∷ cs) = number_from (10 * n + digit_value c) cs

abbrev pub decimal : List ℕ → ℕ
decimal text = number_from 0 (filter is_digit text)

-- how many bits a digit stands for: none in base ten
abbrev pub bits_of_base : ℕ → ℕ
bits_of_base c = cond (is_letter 98 c) 1 (cond (is_letter 111 c) 3 (cond (is_letter 104 c) 4 0))

abbrev pub digit_bits : ℕ → ℕ → List Bit4
digit_bits n c = cond (is_x c) (replicate n X) (cond (is_z c) (replicate n Z) (digits n (digit_value c)))

-- a based number: its sign, how many bits a digit stands for, and its digits, the most significant one first
pub record Based : Type 0 where
  pub signed : Bool
  pub each : ℕ
  pub digits : List ℕ

abbrev pub base_at : Bool → List ℕ → Based
base_at signed [] = record { signed = signed; each = 0; digits = [] }
base_at signed (c ∷ cs) = record { signed = signed; each = bits_of_base c; digits = filter is_digit cs }

-- behind the tick an `s` says that it is signed
abbrev pub behind_tick : List ℕ → Based
behind_tick [] = base_at false []
behind_tick (c ∷ cs) = cond (is_letter 115 c) (base_at true cs) (base_at false (c ∷ cs))

abbrev pub based : List ℕ → Based
based text = behind_tick (drop 1 text)

-- all its bits, the least significant first, and what stands above them: 0, or x or z where the first digit is x or z
abbrev pub first_digit : List ℕ → Bit4
first_digit [] = Zero
first_digit (c ∷ cs) = cond (is_x c) X (cond (is_z c) Z Zero)

abbrev pub above : Based → Bit4
above b = first_digit b.digits

abbrev pub is_decimal : Based → Bool
is_decimal b = b.each == 0

abbrev pub all_bits : Based → List Bit4
all_bits b = flat_map (digit_bits b.each) (reverse b.digits)

-- its bits in so many: digits past them are cut, and missing ones are what stands above
abbrev pub filled : ℕ → Bit4 → List Bit4 → List Bit4
filled w b v = take w v ++ replicate (w - length v) b

abbrev pub bits_in : ℕ → Based → List Bit4
bits_in w b = cond (is_decimal b && known4 (above b)) (vec w (pos (number_from 0 b.digits))) (filled w (above b) (all_bits b))

-- whether it has no more bits than an unsized number
abbrev pub is_zero : Bit4 → Bool
is_zero b = known4 b && not (is_one b)

abbrev pub fits_unsized : Based → Bool
fits_unsized b = cond (is_decimal b) (nat_lt (number_from 0 b.digits) (2 ^ 32) || not (known4 (above b))) (list_all is_zero (drop 32 (all_bits b)))

-- `'0`, `'1`, `'x`, `'z`
abbrev pub fill_bit : List ℕ → Bit4
fill_bit [] = X
fill_bit (c ∷ cs) = cond (c == 48) Zero (cond (c == 49) One (cond (is_x c) X Z))

abbrev pub fill_digit : List ℕ → Bit4
fill_digit text = fill_bit (drop 1 text)
