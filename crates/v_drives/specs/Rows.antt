-- The bits of all signals in a row.
use Rattle.std.specs.Prelude.{◌≡◌, ◌<◌, ◌≤◌, ℕ, zero, suc, ◌+◌, Bool, false, Some, List, [], ◌∷◌, length, slice_get, slice_index_or}
use Rattle.bit_sets.specs.declared.span.Span.{Span}
use Rattle.bit_sets.specs.Sets.{in_spans}
use Rattle.row_machine.specs.Valuation.{Place}
use Rattle.v_meaning.specs.Scopes.{Use}
use Rattle.v_meaning.specs.Statements.{covered}

-- where each signal's bits begin, where signals have so many bits, from a number on
abbrev pub starts_from : ℕ → List ℕ → List ℕ
starts_from n [] = []
starts_from n (w ∷ ws) = n ∷ starts_from (n + w) ws

-- how many bits stand before those of signal n
abbrev pub bits_before : List ℕ → ℕ → ℕ
bits_before ws zero = 0
bits_before [] (suc n) = 0
bits_before (w ∷ ws) (suc n) = w + bits_before ws n

abbrev pub all_bits : List ℕ → ℕ
all_bits ws = bits_before ws (length ws)

-- the number of a bit in the row
abbrev pub number_of : List ℕ → Place → ℕ
number_of ws q = bits_before ws q.signal + q.bit

-- a bit of a signal that is there
abbrev pub IsBit : List ℕ → Place → Type 0
IsBit ws q = (q.signal < length ws) × (q.bit < slice_index_or ws q.signal 0)

-- the numbers of the bits that uses cover, and no others
pub record AreCovered (ws : List ℕ) (us : List Use) (ss : List Span) : Type 0 where
  pub value : (q : Place) → IsBit ws q → in_spans ss (number_of ws q) ≡ covered us q
  pub within : (n : ℕ) → all_bits ws ≤ n → in_spans ss n ≡ false

-- of each of so many bits of a signal whether uses cover it
pub record AreMarks (us : List Use) (signal width : ℕ) (marks : List Bool) : Type 0 where
  pub length_is : length marks ≡ width
  pub value : (k : ℕ) → k < width → slice_get marks k ≡ Some (covered us (record { signal = signal; bit = k }))
