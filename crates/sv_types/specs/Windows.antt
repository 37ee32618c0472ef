-- The bits that a select path names (IEEE 1800-2017 clauses 7.4.5, 7.4.6 and 11.5.1), by the windows that both languages share.
use Rattle.std.specs.Prelude.{ℕ, ◌-◌, ◌*◌, Bool, true, false, ◌&&◌, cond, ℤ, pos, ◌+ℤ◌, ◌-ℤ◌, ◌*ℤ◌, int_le, int_lt, length, Option, Some, None}
use Rattle.sv_types.specs.Layouts.{Layout, Part, count_of}
pub use Rattle.picks.specs.Windows.{Window, whole, nowhere, at_least_0, trimmed, part, within, picked, bit_at, tabulated, seen, written}

-- a member
abbrev pub member_of : Option Part → Window → Window
member_of (Some m) path = part (pos m.below) (length m.two_state) path
member_of None path = nowhere

-- whether the bounds fall from left to right
abbrev pub falls : Layout → Bool
falls of = int_le of.right of.left

-- how many elements lie below the one with an index
abbrev pub rank : Layout → ℤ → ℤ
rank of k = cond (falls of) (k -ℤ of.right) (of.right -ℤ k)

-- n elements, of which the lowest has this rank
abbrev pub elements : Layout → ℤ → ℕ → Window → Window
elements of lowest n path = let w = length of.element.two_state in part (lowest *ℤ pos w) (n * w) path

-- the element with an index
abbrev pub element_of : Layout → Option ℤ → Window → Window
element_of of None path = nowhere
element_of of (Some k) path =
    let r = rank of k in
    cond (int_le (pos 0) r && int_lt r (pos (count_of of.left of.right))) (elements of r 1 path) nowhere

-- the elements from one bound to the other
abbrev pub between : Layout → ℤ → ℤ → Window → Window
between of left right path = elements of (rank of right) (count_of left right) path

-- the index of the lowest of n elements from an index on, upward or downward
abbrev pub lowest_index : Layout → Bool → ℤ → ℕ → ℤ
lowest_index of true k n = cond (falls of) k (k +ℤ pos (n - 1))
lowest_index of false k n = cond (falls of) (k -ℤ pos (n - 1)) k

-- `[k +: n]` and `[k -: n]`
abbrev pub slide : Layout → Bool → ℕ → Option ℤ → Window → Window
slide of up n None path = nowhere
slide of up n (Some k) path = elements of (rank of (lowest_index of up k n)) n path
