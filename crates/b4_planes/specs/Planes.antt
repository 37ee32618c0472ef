-- Vectors as two planes of 64-bit words, the least significant word first. Bit i of a vector is told by bit i of the value
-- plane and bit i of the unknown plane.
use Rattle.std.specs.Prelude.{◌≡◌, ℕ, zero, suc, ◌+◌, ◌-◌, ◌*◌, ◌/◌, ◌%◌, ◌==◌, Bool, true, false, List, [], ◌∷◌, ◌++◌, length, drop, replicate}
use Rattle.b4_core.specs.declared.bit.Bit4.{Bit4}
use Rattle.b4_core.specs.declared.bit.Bit4.TheVariants.{Zero, One, X, Z}

-- a bit from its two planes: 0 and 1 where it is known, z and x where it is not
abbrev pub plane_bit : Bool → Bool → Bit4
plane_bit false false = Zero
plane_bit true false = One
plane_bit false true = Z
plane_bit true true = X

-- the lowest bit of a word
unfoldable pub odd : ℕ → Bool
odd n = n % 2 == 1

-- the k lowest bits of a word of each plane
unfoldable pub word_bits : ℕ → ℕ → ℕ → List Bit4
word_bits zero a u = []
word_bits (suc k) a u = plane_bit (odd a) (odd u) ∷ word_bits k (a / 2) (u / 2)

-- the bits of all words, 64 of each
abbrev pub plane_bits : List ℕ → List ℕ → List Bit4
plane_bits [] lu = []
plane_bits (a ∷ la) [] = []
plane_bits (a ∷ la) (u ∷ lu) = word_bits 64 a u ++ plane_bits la lu

-- how many words hold this many bits
abbrev pub words_for : ℕ → ℕ
words_for bits = (bits + 63) / 64

-- two planes of a vector of this many bits; past its length both are 0
pub record IsPlanes (len : ℕ) (values unknowns : List ℕ) : Type 0 where
  pub value_words : length values ≡ words_for len
  pub unknown_words : length unknowns ≡ words_for len
  pub rest : drop len (plane_bits values unknowns) ≡ replicate (64 * words_for len - len) Zero

-- what a bit writes into the value plane, and into the unknown plane
abbrev pub value_digit : Bit4 → ℕ
value_digit Zero = 0
value_digit One = 1
value_digit X = 1
value_digit Z = 0

abbrev pub unknown_digit : Bit4 → ℕ
unknown_digit Zero = 0
unknown_digit One = 0
unknown_digit X = 1
unknown_digit Z = 1

-- x in place of z
abbrev pub x_for_z : Bit4 → Bit4
x_for_z Zero = Zero
x_for_z One = One
x_for_z X = X
x_for_z Z = X
