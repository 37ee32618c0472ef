-- A design is, as a machine, its core form.
use Rattle.std.specs.Prelude.{◌≡◌, ◌≤◌, ◌^◌, ◌⊎◌, ◌↔◌, ℕ, List, map, slice_get, Option, Some, length}
use Rattle.row_machine.specs.Valuation.{Valuation, Member}
use Rattle.row_machine.specs.Trace.{HasTrace}
use Rattle.row_machine.specs.Footprints.{SameRuns}
use Rattle.sv_types.specs.declared.design.Design as Final
use Rattle.sv_types.specs.Machine as F
use Rattle.sv_core.specs.declared.design.SignalKind.TheVariants.{InputNet}
use Rattle.sv_core.specs.declared.design.Signal.{Signal}
use Rattle.sv_core.specs.declared.design.Process.{Process}
use Rattle.sv_core.specs.declared.design.Design.{Design}
use Rattle.sv_core.specs.Statements.{doing}
use Rattle.sv_core.specs.Machine as S
use Rattle.core_forms.specs.Forms.{core_of}
use Rattle.core_forms.specs.Typing.{IsPlain}

-- there are at most 2^32 signals, and no process writes an input
pub record IsModest (d : Design) : Type 0 where
  pub few : length d.signals ≤ 2 ^ 32
  pub inputs : (p : Process) → Member d.processes p → (n : ℕ) → Member (doing p.body).targets n ⊎ Member (doing p.body).later_targets n
      → (s : Signal) → slice_get d.signals n ≡ Some s → s.kind ≡ InputNet → ⊥

-- the machines run alike
abbrev pub CoresRunAlike : Type 0
CoresRunAlike = (d : Final.Design) (c : Design) → IsPlain d → core_of d ≡ Some c → IsModest c → SameRuns (F.machine d) (S.machine c)

-- so they have the same traces
abbrev pub CoresHaveTheTraces : Type 0
CoresHaveTheTraces = (d : Final.Design) (c : Design) → IsPlain d → core_of d ≡ Some c → IsModest c
    → (rows vs : List Valuation) → HasTrace (F.machine d) rows vs ↔ HasTrace (S.machine c) rows vs
