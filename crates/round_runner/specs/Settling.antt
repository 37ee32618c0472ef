-- What settlings of stores come to.
use Rattle.std.specs.Prelude.{◌≡◌, ℕ, ◌&&◌, not, Bool, false, List, Some, slice_get}
use Rattle.b4_core.specs.declared.bit.Bit4.{Bit4}
use Rattle.row_machine.specs.Machine.{Process, Machine, Started}
use Rattle.row_machine.specs.Settle.{SettlesBy, adds, woken, differs}
use Rattle.row_machine.specs.Rounds.{Reaches}
use Rattle.row_machine.specs.Unsettled.{SettlingFails}
use Rattle.round_runner.specs.declared.rounds.Change.{Change}
use Rattle.round_runner.specs.declared.rounds.Ended.{Ended}
use Rattle.round_runner.specs.declared.rounds.Ended.TheVariants.{Rests, Changes}
use Rattle.round_runner.specs.Stores.{holding, widths}
use Rattle.round_runner.specs.Parts.{Marks}
use Rattle.round_runner.specs.Rounds.{LastChange}

-- whether a settled store starts the process with a number, which is started already or not
pub record Adds (d : Machine) (i : ℕ) (started : Bool) (now : List (List Bit4)) (answer : Bool) : Type 0 where
  pub told : (p : Process) → slice_get d.combs i ≡ Some p → answer ≡ (not started && differs p.waits_for (holding now) d.initial)

-- the flags after a settled store has started processes, and whether it has started one
pub record Woken (d : Machine) (now : List (List Bit4)) (before after : List Bool) (answer : Bool) : Type 0 where
  pub marks : (s : Started) → Marks d.combs s before → Marks d.combs (woken d (holding now) s) after
  pub added : (s : Started) → Marks d.combs s before → answer ≡ adds d (holding now) s
  pub kept : answer ≡ false → after ≡ before

-- settling ends with a store
pub record Settles (d : Machine) (base : List (List Bit4)) (before after : List Bool) (now : List (List Bit4)) : Type 0 where
  pub ends : (s : Started) → Marks d.combs s before → (t : Started) × Marks d.combs t after × SettlesBy (Reaches d) d (holding base) s t (holding now)
  pub shape : widths now ≡ widths base

-- settling fails
pub record Fails (d : Machine) (base : List (List Bit4)) (before : List Bool) (c : Change) : Type 0 where
  pub fails : (s : Started) → Marks d.combs s before → (t : Started) × SettlingFails d (holding base) s t × LastChange d t (holding base) (widths base) c

abbrev pub SettlingEnds : Machine → List (List Bit4) → List Bool → List Bool → Ended → Type 0
SettlingEnds d base before after (Rests now) = Settles d base before after now
SettlingEnds d base before after (Changes c) = Fails d base before c
