-- Where a row file departs from the form: the first byte that its place in a row doesn't take, and what was expected there.
use Rattle.std.specs.Prelude.{◌≡◌, ℕ, suc, ◌-◌, ◌*◌, ◌^◌, ◌/◌, ◌%◌, ◌<◌, ◌≤◌, ◌==◌, nat_lt, Bool, true, false, ◌&&◌, ◌||◌, if◌then◌else◌, List, [], ◌∷◌, length, Some, None, Result, Ok, Err, slice_get, slice_index_or, codes}
use Rattle.b4_core.specs.declared.bit.Bit4.{Bit4}
use Rattle.sv_source.specs.declared.refusal.Fail.{Fail}
use Rattle.sv_source.specs.declared.refusal.Fail.TheVariants.{Memory, Refused}
use Rattle.sv_source.specs.declared.refusal.Refusal.{Refusal}
use Rattle.stim_rows.specs.declared.shape.Port.{Port}
use Rattle.stim_rows.specs.declared.shape.Shape.{Shape}
use Rattle.stim_rows.specs.declared.slots.Slot.{Slot}
use Rattle.stim_rows.specs.declared.slots.Slot.TheVariants.{FourState}
use Rattle.stim_rows.specs.Slots.{takes, width, slots_of}
use Rattle.stim_rows.specs.RowFiles.{RowsText}

-- whether there is a byte k, and its place in its row takes it: all rows have the same length
abbrev pub is_taken : List Slot → List ℕ → ℕ → Bool
is_taken slots bytes k = elim (slice_get bytes k) [ None ↦ false | Some byte ↦ takes (slice_index_or slots (k % length slots) FourState) byte ]

-- whether a file of so many bytes ends with a row, which may lack its newline if it is more than that
abbrev pub is_whole : List Slot → ℕ → Bool
is_whole slots n = n % length slots == 0 || (nat_lt 1 (length slots) && suc (n % length slots) == length slots)

-- each byte is as it must be, and the file ends with a row
pub record Keeps (slots : List Slot) (bytes : List ℕ) : Type 0 where
  pub taken : (j : ℕ) → j < length bytes → is_taken slots bytes j ≡ true
  pub ends : is_whole slots (length bytes) ≡ true

-- all bytes before byte k are as they must be, and this one isn't; or the file ends there within a row
pub record DepartsAt (slots : List Slot) (bytes : List ℕ) (k : ℕ) : Type 0 where
  pub taken_before : (j : ℕ) → j < k → is_taken slots bytes j ≡ true
  pub not_taken : is_taken slots bytes k ≡ false
  pub not_an_end : k ≡ length bytes → is_whole slots k ≡ false
  pub within : k ≤ length bytes

-- the input that is expected at a place of a row's line, or the line's end
abbrev pub expected : List Port → ℕ → List ℕ
expected [] n = codes "<line>"
expected (port ∷ rest) n = if nat_lt n (width port) then port.name else expected rest (n - suc (width port))

abbrev pub departure : Shape → ℕ → ℕ → Refusal
departure shape file k =
    let size = length (slots_of shape.inputs) in
    record { rule = 801; place = record { file = file; line = suc (k / size); col = suc (k % size) }; word = expected shape.inputs (k % size) }

abbrev pub too_many : ℕ → Refusal
too_many file = record { rule = 802; place = record { file = file; line = 1; col = 1 }; word = codes "rows" }

-- so many rows times bits of signals are the most that are taken
abbrev pub row_limit : ℕ
row_limit = 2 ^ 28

-- why a row file is refused
pub data RowsBreak (shape : Shape) (file : ℕ) (bytes : List ℕ) : Refusal → Type 0 where
  departs : (k : ℕ) → DepartsAt (slots_of shape.inputs) bytes k → RowsBreak shape file bytes (departure shape file k)
  many : (rows : List (List (List Bit4))) → RowsText shape.inputs bytes rows → row_limit < length rows * shape.bits → RowsBreak shape file bytes (too_many file)

-- A row file of the right form gives its rows, if they aren't too many, and any other one its refusal.
abbrev pub RowsGive : Shape → ℕ → List ℕ → Result (List (List (List Bit4))) Fail → Type 0
RowsGive shape file bytes (Ok rows) = RowsText shape.inputs bytes rows × (length rows * shape.bits ≤ row_limit)
RowsGive shape file bytes (Err Memory) = Unit {0}
RowsGive shape file bytes (Err (Refused r)) = RowsBreak shape file bytes r
