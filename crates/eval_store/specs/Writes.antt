-- Slots that are written.
use Rattle.std.specs.Prelude.{◌≡◌, ◌≤◌, ⊤, ℕ, Bool, true, false, cond, pos, ◌-ℤ◌, List, length, Option, Some, None, is_some, slice_index_or, slice_set}
use Rattle.b4_core.specs.declared.bit.Bit4.{Bit4}
use Rattle.b4_core.specs.declared.bit.Bit4.TheVariants.{X}
use Rattle.row_machine.specs.Valuation.{put}
use Rattle.picks.specs.Windows.{Window, within, at_least_0, written}
use Rattle.eval_parts.specs.SvTypes.{local_number}
use Rattle.eval_parts.specs.Steps.{is_held}
use Rattle.eval_parts.specs.Surroundings.{held_bit, now_of}

abbrev pub Slot : Type 0
Slot = Option (List Bit4)

-- whether a slot holds so many bits or more
abbrev pub SlotReaches : Bool → Slot → ℕ → Type 0
SlotReaches false slot high = ⊤
SlotReaches true None high = ⊥
SlotReaches true (Some v) high = high ≤ length v

-- what a slot holds, with x behind it
pub record Longer (slot : Slot) (count : ℕ) (v : List Bit4) : Type 0 where
  pub long : count ≤ length v
  pub same : (k : ℕ) → slice_index_or v k X ≡ held_bit slot k

-- bit k of what is written through a window
abbrev pub new_bit : Window → List Bit4 → ℕ → Bit4
new_bit path bits k = slice_index_or bits (at_least_0 (pos k -ℤ path.shift)) X

-- A slot after a write: the bits in range are the new ones.
pub record SlotWritten (old new : Slot) (path : Window) (bits : List Bit4) : Type 0 where
  pub now : (k : ℕ) → held_bit new k ≡ cond (within path k) (new_bit path bits k) (held_bit old k)
  pub held : is_some new ≡ true

-- slots after a write of the one with a number
pub record WrittenAt (old new : List Slot) (n : ℕ) (path : Window) (bits : List Bit4) : Type 0 where
  pub slot : Slot
  pub is : new ≡ slice_set old n slot
  pub written : SlotWritten (slice_index_or old n None) slot path bits

-- Signals after a write of one of them, whatever locals there are: what they hold is what the write makes of it, and the same
-- ones are held.
pub record SignalWritten (old new : List Slot) (n : ℕ) (path : Window) (bits : List Bit4) : Type 0 where
  pub now : (locals : List Slot) → now_of new locals ≡ put (written n path bits) (now_of old locals)
  pub held : (k : ℕ) → is_held new k ≡ is_held old k

-- locals after a write of one of them
pub record LocalWritten (old new : List Slot) (n : ℕ) (path : Window) (bits : List Bit4) : Type 0 where
  pub now : (signals : List Slot) → now_of signals new ≡ put (written (local_number n) path bits) (now_of signals old)
