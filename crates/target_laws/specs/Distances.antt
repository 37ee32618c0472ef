-- Elements of an indexed part-select, the lowest one first (IEEE 1800-2017 clause 11.5.1).
use Rattle.std.specs.Prelude.{ℕ, ◌-◌, Bool, true, false, ℤ, pos, ◌+ℤ◌, ◌-ℤ◌, Option, Some, None}
use Rattle.picks.specs.Windows.{Window, nowhere}
use Rattle.sv_types.specs.Layouts.{Layout}
use Rattle.sv_types.specs.Windows.{elements, rank, lowest_index}

-- an index that is moved
abbrev pub moved_by : Option ℤ → ℤ → Option ℤ
moved_by None d = None
moved_by (Some k) d = Some (k +ℤ d)

-- how far the index of element t of n lies from the one at which they begin, upward or downward, by whether bounds fall
abbrev pub distance : Bool → Bool → ℕ → ℕ → ℤ
distance true true n t = pos t
distance true false n t = pos t -ℤ pos (n - 1)
distance false true n t = pos (n - 1) -ℤ pos t
distance false false n t = pos 0 -ℤ pos t

-- the lowest t of n elements from an index on
abbrev pub lowest_elements : Layout → Bool → ℕ → Option ℤ → ℕ → Window → Window
lowest_elements of up n None t path = nowhere
lowest_elements of up n (Some k) t path = elements of (rank of (lowest_index of up k n)) t path
