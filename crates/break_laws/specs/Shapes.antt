-- What a design has that elaboration gave, whatever rules its processes break.
use Rattle.std.specs.Prelude.{◌≡◌, ℕ, ◌^◌, ◌≤◌, Bool, true, false, cond, length, List, Option, Some, None, slice_get}
use Rattle.row_machine.specs.Valuation.{Place, Member, has}
use Rattle.sv_types.specs.declared.design.Design.{Design}
use Rattle.sv_types.specs.declared.design.Process.{Process}
use Rattle.sv_types.specs.declared.design.Signal.{Signal}
use Rattle.sv_types.specs.Layouts.{width_of}
use Rattle.sv_types.specs.Surroundings.{is_signal, Use}
use Rattle.sv_types.specs.Flows.{covered, uses_of}
use Rattle.sv_types.specs.Machine.{parts, places}
use Rattle.flow_laws.specs.Runs.{Variables, is_beyond}
use Rattle.flow_laws.specs.Statements.{has_variables}
use Rattle.design_breaks.specs.Memories.{flow}
use Rattle.break_laws.specs.Widths.{Widths, stmt_fits}

abbrev pub width_at : Option Signal → Option ℕ
width_at None = None
width_at (Some s) = Some (width_of s.of)

-- how many bits those locals have that are variables of loops
abbrev pub only_those : (ℕ → Bool) → Widths → Variables
only_those is_variable widths n = cond (is_variable n) (widths n) None

module _ (d : Design) where
  pub record ShapedProcess (p : Process) : Type 0 where
    -- how many bits each signal and each local of the process has; the signals have those of their types
    pub widths : Widths
    pub signals : (n : ℕ) → is_signal n ≡ true → widths n ≡ width_at (slice_get d.signals n)
    -- wherever a signal, a local or the variable of a loop stands, it has as many
    pub fits : stmt_fits widths p.body ≡ true
    -- which locals are variables of loops: no local of a block is one
    pub is_variable : ℕ → Bool
    pub has : has_variables (only_those is_variable widths) p.body ≡ true

  pub record Shaped : Type 0 where
    -- signals are numbered below locals
    pub numbers : length d.signals ≤ 2 ^ 32
    pub processes : (p : Process) → Member d.processes p → ShapedProcess p

  -- each bit of a signal that is named here is a bit that the signal has
  abbrev pub AreThere : List Use → Type 0
  AreThere us = (q : Place) → is_signal q.signal ≡ true → covered us q ≡ true → has (places (parts d)) q ≡ true

  -- a process reads and writes bits of signals that are there, and writes no bit that the variable of a loop doesn't have
  pub record KeepsToBits (variables : Variables) (p : Process) : Type 0 where
    pub reads : AreThere (flow d p).reads
    pub writes : AreThere (uses_of (flow d p).writes)
    pub later : AreThere (uses_of (flow d p).later)
    pub within : (q : Place) → is_beyond variables q ≡ true → covered (uses_of (flow d p).writes) q ≡ false
