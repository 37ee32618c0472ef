-- The bits of whole signals as places of a machine.
use Rattle.std.specs.Prelude.{ℕ, zero, suc, ◌==◌, nat_lt, ◌&&◌, not, List, [], ◌∷◌, Some, None, if◌then◌else◌, slice_index_or, filter}
use Rattle.b4_core.specs.declared.bit.Bit4.{Bit4}
use Rattle.b4_core.specs.declared.bit.Bit4.TheVariants.{X}
use Rattle.row_machine.specs.Valuation.{Place, Valuation, Changes, has}

-- the places of w bits of a signal, from bit k on
abbrev pub places_from : ℕ → ℕ → ℕ → List Place
places_from signal k zero = []
places_from signal k (suc w) = record { signal = signal; bit = k } ∷ places_from signal (suc k) w

-- the places of a signal of w bits
abbrev pub places_of : ℕ → ℕ → List Place
places_of signal w = places_from signal 0 w

-- what w bits of a signal hold, from bit k on
abbrev pub bits_from : Valuation → ℕ → ℕ → ℕ → List Bit4
bits_from v signal k zero = []
bits_from v signal k (suc w) = v (record { signal = signal; bit = k }) ∷ bits_from v signal (suc k) w

-- the vector that a signal of w bits holds, least bit first
abbrev pub vector_at : Valuation → ℕ → ℕ → List Bit4
vector_at v signal w = bits_from v signal 0 w

-- the assignment of a vector to a whole signal of w bits
abbrev pub assigned : ℕ → ℕ → List Bit4 → Changes
assigned signal w bits q = if (q.signal == signal) && nat_lt q.bit w then Some (slice_index_or bits q.bit X) else None

-- the places of the first list that aren't in the second
abbrev pub without : List Place → List Place → List Place
without own places = filter (λ p. not (has own p)) places
