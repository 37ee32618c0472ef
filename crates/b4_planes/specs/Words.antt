-- What the kernels make of the words of the planes. A word of the first vector's value plane is a, of its unknown plane u,
-- and of the second vector's planes b and v.
use Rattle.std.specs.Prelude.{ℕ, ◌-◌, ◌^◌, List, [], ◌∷◌, bit_and, bit_or, bit_xor}

-- a function of words, on each place of four planes
abbrev pub words4 : (ℕ → ℕ → ℕ → ℕ → ℕ) → List ℕ → List ℕ → List ℕ → List ℕ → List ℕ
words4 f [] lu lb lv = []
words4 f (a ∷ la) [] lb lv = []
words4 f (a ∷ la) (u ∷ lu) [] lv = []
words4 f (a ∷ la) (u ∷ lu) (b ∷ lb) [] = []
words4 f (a ∷ la) (u ∷ lu) (b ∷ lb) (v ∷ lv) = f a u b v ∷ words4 f la lu lb lv

-- &: not 0 where neither is 0, unknown where one of these is
abbrev pub and_value : ℕ → ℕ → ℕ → ℕ → ℕ
and_value a u b v = bit_and (bit_or a u) (bit_or b v)

abbrev pub and_unknown : ℕ → ℕ → ℕ → ℕ → ℕ
and_unknown a u b v = bit_and (and_value a u b v) (bit_or u v)

-- |: 1 where one is 1, else unknown where one is
abbrev pub one_of : ℕ → ℕ → ℕ
one_of a u = bit_xor (bit_or a u) u

abbrev pub either_one : ℕ → ℕ → ℕ → ℕ → ℕ
either_one a u b v = bit_or (one_of a u) (one_of b v)

abbrev pub or_value : ℕ → ℕ → ℕ → ℕ → ℕ
or_value a u b v = bit_or (bit_or a u) (bit_or b v)

abbrev pub or_unknown : ℕ → ℕ → ℕ → ℕ → ℕ
or_unknown a u b v = one_of (bit_or u v) (either_one a u b v)

-- ^: unknown where one is
abbrev pub xor_unknown : ℕ → ℕ → ℕ → ℕ → ℕ
xor_unknown a u b v = bit_or u v

abbrev pub xor_value : ℕ → ℕ → ℕ → ℕ → ℕ
xor_value a u b v = bit_or (bit_xor a b) (bit_or u v)

-- the merge of ?:, unknown where one is or they differ
abbrev pub merge_unknown : ℕ → ℕ → ℕ → ℕ → ℕ
merge_unknown a u b v = bit_or (bit_xor a b) (bit_or u v)

abbrev pub merge_value : ℕ → ℕ → ℕ → ℕ → ℕ
merge_value a u b v = bit_or (bit_and a b) (merge_unknown a u b v)

-- ~ of the r lowest bits of a word
abbrev pub not_low : ℕ → ℕ → ℕ → ℕ
not_low r a u = bit_or (bit_xor a (2 ^ r - 1)) u

-- ~ of a whole word
abbrev pub not_value : ℕ → ℕ → ℕ
not_value a u = bit_or (bit_xor a 0xffff_ffff_ffff_ffff) u
