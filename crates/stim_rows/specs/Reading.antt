-- The rows that bytes of the right form hold, and how many there are.
use Rattle.std.specs.Prelude.{ℕ, zero, suc, ◌+◌, ◌/◌, ◌==◌, if◌then◌else◌, List, [], ◌∷◌, map, reverse, take, drop, pred}
use Rattle.b4_core.specs.declared.bit.Bit4.{Bit4}
use Rattle.b4_core.specs.declared.bit.Bit4.TheVariants.{Zero, One, X, Z}
use Rattle.stim_rows.specs.declared.shape.Port.{Port}
use Rattle.stim_rows.specs.Slots.{width}

abbrev pub bit_of : ℕ → Bit4
bit_of byte = if byte == 48 then Zero else if byte == 49 then One else if byte == 120 then X else Z

abbrev pub vector_in : List ℕ → List Bit4
vector_in text = map bit_of (reverse text)

-- the vectors in a line that begins these bytes
abbrev pub row_in : List Port → List ℕ → List (List Bit4)
row_in [] line = []
row_in (port ∷ rest) line = vector_in (take (width port) line) ∷ row_in rest (drop 1 (drop (width port) line))

-- so many rows of lines of the same size
abbrev pub rows_in : ℕ → List Port → ℕ → List ℕ → List (List (List Bit4))
rows_in zero inputs size bytes = []
rows_in (suc n) inputs size bytes = row_in inputs bytes ∷ rows_in n inputs size (drop size bytes)

-- how many lines begin in a file
abbrev pub count_of : ℕ → ℕ → ℕ
count_of size n = (n + pred size) / size
