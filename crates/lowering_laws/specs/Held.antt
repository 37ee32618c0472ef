-- Bits of two-state types as select paths name them (IEEE 1800-2017 clauses 6.11.2 and 7.2.1).
use Rattle.std.specs.Prelude.{◌≡◌, ℕ, ◌<◌, Bool, true, false, List, Some, slice_index_or}
use Rattle.picks.specs.Windows.{picked, bit_at}
use Rattle.sv_types.specs.Layouts.{stored_bit}
use Rattle.sv_types.specs.Surroundings.{Around}
use Rattle.sv_types.specs.Meanings as S

-- whether bit j is of a two-state type
abbrev pub marked : List Bool → ℕ → Bool
marked two_state j = slice_index_or two_state j false

-- Each bit of the path that is in range holds what its type can hold. A two-state member of a four-state whole isn't held so.
abbrev pub IsHeld : S.Meaning → Around → Type 0
IsHeld e a = (j k : ℕ) → j < S.wide e → picked (e.window a) j ≡ Some k
    → stored_bit (marked e.of.two_state j) (bit_at (e.base a) (Some k)) ≡ bit_at (e.base a) (Some k)

-- A bit of what the path stands on that is of a two-state type is one of the path's type too, so that what is written to it is
-- converted.
abbrev pub IsConverted : (ℕ → Bool) → S.Meaning → Around → Type 0
IsConverted two_state e a = (j k : ℕ) → j < S.wide e → picked (e.window a) j ≡ Some k → two_state k ≡ true → marked e.of.two_state j ≡ true
