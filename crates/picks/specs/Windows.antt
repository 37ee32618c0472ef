-- The bits that a select path names (IEEE 1800-2017 clause 11.5.1, IEEE 1364-2005 clause 5.2).
use Rattle.std.specs.Prelude.{ℕ, zero, suc, max, min, Bool, ◌&&◌, ◌==◌, nat_le, nat_lt, cond, ℤ, pos, negsuc, ◌+ℤ◌, ◌-ℤ◌, int_le, int_lt, List, [], ◌∷◌, Option, Some, None, slice_index_or}
use Rattle.row_machine.specs.B4Core.{Bit4}
use Rattle.row_machine.specs.B4Core.{X}
use Rattle.row_machine.specs.Valuation.{Changes}

-- Bit j of a path is bit j + shift of the signal or local on which it stands, where that lies from low up to, but not
-- including, high. Any other bit of the path is out of range.
pub record Window : Type 0 where
  pub shift : ℤ
  pub low : ℕ
  pub high : ℕ

-- all of a signal or local of w bits
abbrev pub whole : ℕ → Window
whole w = record { shift = pos 0; low = 0; high = w }

-- nothing: the path of an index that is out of range or has x or z
abbrev pub nowhere : Window
nowhere = record { shift = pos 0; low = 0; high = 0 }

-- the number, or 0 where it is negative
abbrev pub at_least_0 : ℤ → ℕ
at_least_0 (pos n) = n
at_least_0 (negsuc n) = 0

-- a window without a bit is nowhere
abbrev pub trimmed : Window → Window
trimmed path = cond (nat_lt path.low path.high) path nowhere

-- w bits of a path from its bit number o on; some of them may be out of range
abbrev pub part : ℤ → ℕ → Window → Window
part o w path =
    trimmed (record {
      shift = path.shift +ℤ o;
      low = max path.low (at_least_0 (path.shift +ℤ o));
      high = min path.high (at_least_0 (path.shift +ℤ o +ℤ pos w));
    })

abbrev pub within : Window → ℕ → Bool
within path k = nat_le path.low k && nat_lt k path.high

-- the bit that bit j of the path is, if it is in range
abbrev pub picked : Window → ℕ → Option ℕ
picked path j =
    let k = pos j +ℤ path.shift in
    cond (int_le (pos path.low) k && int_lt k (pos path.high)) (Some (at_least_0 k)) None

abbrev pub bit_at : List Bit4 → Option ℕ → Bit4
bit_at held None = X
bit_at held (Some k) = slice_index_or held k X

-- f 0, f 1 and so on, n of them
abbrev pub tabulated : {A : Type 0} → ℕ → (ℕ → A) → List A
tabulated zero f = []
tabulated (suc n) f = f 0 ∷ tabulated n (λ k. f (suc k))

-- the w bits of a path, x where they are out of range
abbrev pub seen : List Bit4 → Window → ℕ → List Bit4
seen held path w = tabulated w (λ j. bit_at held (picked path j))

-- what a write of these bits through a path changes of the signal or local with a number: the bits in range
abbrev pub written : ℕ → Window → List Bit4 → Changes
written root path bits q =
    cond ((q.signal == root) && within path q.bit) (Some (slice_index_or bits (at_least_0 (pos q.bit -ℤ path.shift)) X)) None
