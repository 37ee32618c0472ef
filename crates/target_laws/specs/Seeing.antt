-- Bits of a select path as bits of another one (IEEE 1800-2017 clause 11.5.1).
use Rattle.std.specs.Prelude.{◌≡◌, ◌⊎◌, ℕ, ◌+◌, ◌≤◌, ◌<◌, ℤ, pos, ◌+ℤ◌, ◌&&◌, int_le, int_lt, cond, Option, Some, None}
use Rattle.picks.specs.Windows.{Window, picked, at_least_0}

-- bit d of a path, also below its first one, if it is in range
abbrev pub bit_from : Window → ℤ → Option ℕ
bit_from path d = let k = d +ℤ path.shift in cond (int_le (pos path.low) k && int_lt k (pos path.high)) (Some (at_least_0 k)) None

-- the bit that a bit of a path is, if there is one
abbrev pub through : Window → Option ℕ → Option ℕ
through path None = None
through path (Some b) = picked path b

-- the bits of a path are those that a window names of another path's bits
abbrev pub IsSeen : Window → Window → Window → Type 0
IsSeen path from inner = (d : ℤ) → bit_from path d ≡ through from (bit_from inner d)

-- m bits of a path of n bits, from bit k on, are those of another one from bit low on; its other bits are out of range
pub record IsCut (path from : Window) (n k low m : ℕ) : Type 0 where
  pub within : k + m ≤ n
  pub picks : (j : ℕ) → j < m → picked path (k + j) ≡ picked from (low + j)
  pub outside : (j : ℕ) → j < n → (j < k) ⊎ (k + m ≤ j) → picked path j ≡ None

-- a window of all n bits of a path, or of none
abbrev pub IsFull : Window → ℕ → Type 0
IsFull inner n = (inner.high ≤ inner.low) ⊎ ((inner.shift ≡ pos inner.low) × (inner.high ≡ inner.low + n))
