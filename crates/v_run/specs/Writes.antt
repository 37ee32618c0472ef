-- Vectors and slots that are written.
use Rattle.std.specs.Prelude.{◌≡◌, ◌≤◌, ◌<◌, ◌==◌, ◌&&◌, nat_lt, ℕ, suc, cond, pos, ◌-ℤ◌, List, [], ◌∷◌, length, slice_index_or, slice_set}
use Rattle.b4_core.specs.declared.bit.Bit4.{Bit4}
use Rattle.b4_core.specs.declared.bit.Bit4.TheVariants.{X}
use Rattle.v_eval.specs.declared.held.Slot.{Slot}
use Rattle.v_eval.specs.Holding.{slot_of, signal_bits}
use Rattle.picks.specs.Windows.{Window, within, at_least_0}

-- bit k of what is written through a window
abbrev pub new_bit : Window → List Bit4 → ℕ → Bit4
new_bit path bits k = slice_index_or bits (at_least_0 (pos k -ℤ path.shift)) X

-- the bits in range are the new ones
abbrev pub NewBits : List Bit4 → List Bit4 → Window → List Bit4 → Type 0
NewBits old new path bits = (k : ℕ) → slice_index_or new k X ≡ cond (within path k) (new_bit path bits k) (slice_index_or old k X)

-- a vector after a write through a window that it reaches
pub record VectorWritten (old new : List Bit4) (path : Window) (bits : List Bit4) : Type 0 where
  pub long : length new ≡ length old
  pub now : NewBits old new path bits

-- one after a write through a window that it may not reach: bits behind its end are left out
pub record InsideWritten (old new : List Bit4) (path : Window) (bits : List Bit4) : Type 0 where
  pub long : length new ≡ length old
  pub now : (k : ℕ) → slice_index_or new k X ≡ cond (within path k && nat_lt k (length old)) (new_bit path bits k) (slice_index_or old k X)

-- one that may have become longer, and hasn't where it reached the window
pub record SlotWritten (old new : List Bit4) (path : Window) (bits : List Bit4) : Type 0 where
  pub now : NewBits old new path bits
  pub long : path.high ≤ length old → length new ≡ length old

-- what a vector holds, with x behind it
pub record Grown (old : List Bit4) (count : ℕ) (new : List Bit4) : Type 0 where
  pub long : count ≤ length new
  pub same : (k : ℕ) → slice_index_or new k X ≡ slice_index_or old k X

-- slots after a write of the one with a number, which may have had none behind it
pub record SlotsWritten (old new : List (List Bit4)) (n : ℕ) (path : Window) (bits : List Bit4) : Type 0 where
  pub middle : List (List Bit4)
  pub same : (m : ℕ) → slot_of middle m ≡ slot_of old m
  pub there : n < length middle
  pub slot : List Bit4
  pub is : new ≡ slice_set middle n slot
  pub written : SlotWritten (slot_of middle n) slot path bits

-- where the first of these for a signal stands, and else how many they are
abbrev pub place : List Slot → ℕ → ℕ
place [] n = 0
place (o ∷ os) n = cond (o.number == n) 0 (suc (place os n))

-- where a signal stands that is there
pub record IsPlace (over : List Slot) (n k : ℕ) : Type 0 where
  pub is : k ≡ place over n
  pub there : k < length over

-- signals after a write of the one with a number
pub record SignalWritten (signals : List (List Bit4)) (old new : List Slot) (n : ℕ) (path : Window) (bits : List Bit4) : Type 0 where
  pub slot : List Bit4
  pub now : (m : ℕ) → signal_bits signals new m ≡ cond (m == n) slot (signal_bits signals old m)
  pub written : SlotWritten (signal_bits signals old n) slot path bits
