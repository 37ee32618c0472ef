-- What stands at each place of a row's line.
use Rattle.std.specs.Prelude.{ℕ, Bool, ◌||◌, ◌==◌, List, [], ◌∷◌, ◌++◌, map, length, reverse}
use Rattle.b4_core.specs.declared.bit.Bit4.{Bit4}
use Rattle.b4_core.specs.declared.bit.Bit4.TheVariants.{Zero, One, X, Z}
use Rattle.stim_rows.specs.declared.shape.Port.{Port}
use Rattle.stim_rows.specs.declared.slots.Slot.{Slot}
use Rattle.stim_rows.specs.declared.slots.Slot.TheVariants.{FourState, TwoState, Space, LineEnd}

-- parts, each behind the same thing
abbrev pub behind : {A : Type 0} → A → List (List A) → List A
behind between [] = []
behind between (part ∷ rest) = between ∷ (part ++ behind between rest)

-- parts one behind the other, with the same thing between them
abbrev pub joined : {A : Type 0} → A → List (List A) → List A
joined between [] = []
joined between (part ∷ rest) = part ++ behind between rest

-- how many bits a port has: it has a mark for each
abbrev pub width : Port → ℕ
width port = length port.two_state

abbrev pub takes : Slot → ℕ → Bool
takes FourState byte = byte == 48 || byte == 49 || byte == 120 || byte == 122
takes TwoState byte = byte == 48 || byte == 49
takes Space byte = byte == 32
takes LineEnd byte = byte == 10

abbrev pub slot_of : Bit4 → Slot
slot_of One = TwoState
slot_of Zero = FourState
slot_of X = FourState
slot_of Z = FourState

abbrev pub port_slots : Port → List Slot
port_slots port = map slot_of (reverse port.two_state)

abbrev pub slots_of : List Port → List Slot
slots_of inputs = joined Space (map port_slots inputs) ++ LineEnd ∷ []
