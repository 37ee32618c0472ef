-- Row files: a line for each row, with the bits of each input, most significant first, and one space between inputs.
use Rattle.std.specs.Prelude.{◌≡◌, ◌⊎◌, ⊤, ℕ, ◌<◌, List, [], ◌∷◌, ◌++◌, map, length, reverse, flat_map, All}
use Rattle.std.specs.List.{AllZip}
use Rattle.b4_core.specs.declared.bit.Bit4.{Bit4}
use Rattle.b4_core.specs.declared.bit.Bit4.TheVariants.{Zero, One, X, Z}
use Rattle.stim_rows.specs.declared.shape.Port.{Port}
use Rattle.stim_rows.specs.Slots.{joined, slots_of}

abbrev pub digit : Bit4 → ℕ
digit Zero = 48
digit One = 49
digit X = 120
digit Z = 122

abbrev pub vector_text : List Bit4 → List ℕ
vector_text v = map digit (reverse v)

-- the line of some vectors, with its newline
abbrev pub line_text : List (List Bit4) → List ℕ
line_text row = joined 32 (map vector_text row) ++ 10 ∷ []

abbrev pub text_of : List (List (List Bit4)) → List ℕ
text_of rows = flat_map line_text rows

-- a two-state bit is 0 or 1
abbrev pub BitFits : Bit4 → Bit4 → Type 0
BitFits One Zero = ⊤
BitFits One One = ⊤
BitFits One X = ⊥
BitFits One Z = ⊥
BitFits Zero b = ⊤
BitFits X b = ⊤
BitFits Z b = ⊤

-- the port has as many bits, and takes each of them
abbrev pub PortTakes : Port → List Bit4 → Type 0
PortTakes port v = AllZip BitFits port.two_state v

abbrev pub RowFits : List Port → List (List Bit4) → Type 0
RowFits inputs row = AllZip PortTakes inputs row

-- The bytes are those of the text, but that the last line may lack its newline where it is more than that. So an empty
-- line that isn't ended is no row.
abbrev pub IsText : List Port → List ℕ → List ℕ → Type 0
IsText inputs bytes text = (bytes ≡ text) ⊎ ((1 < length (slots_of inputs)) × (bytes ++ 10 ∷ [] ≡ text))

pub record RowsText (inputs : List Port) (bytes : List ℕ) (rows : List (List (List Bit4))) : Type 0 where
  pub fit : All (RowFits inputs) rows
  pub text : IsText inputs bytes (text_of rows)
