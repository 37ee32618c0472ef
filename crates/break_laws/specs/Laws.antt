-- The laws from designs that break no rule on processes to machines with one trace. Each is the contract of a function of this
-- crate.
use Rattle.std.specs.Prelude.{◌≡◌, ◌↔◌, ℕ, ◌^◌, ◌≤◌, true, false, List, [], length, Some, None, slice_get}
use Rattle.row_machine.specs.Valuation.{Place, Valuation, Member, has, OneWriter}
use Rattle.row_machine.specs.Machine as M
use Rattle.row_machine.specs.Order.{Free, Sound}
use Rattle.row_machine.specs.Trace.{OneTrace}
use Rattle.sv_types.specs.declared.design.Design.{Design}
use Rattle.sv_types.specs.declared.design.Process.{Process}
use Rattle.sv_types.specs.declared.statement.Stmt.{Stmt}
use Rattle.sv_types.specs.Surroundings.{Parameter, Sight}
use Rattle.sv_types.specs.Flows.{covered, uses_of}
use Rattle.sv_types.specs.Statements.{doing}
use Rattle.sv_types.specs.Machine.{parts, places, machine}
use Rattle.flow_laws.specs.Runs.{some_token}
use Rattle.design_breaks.specs.Actions.{actions}
use Rattle.design_breaks.specs.Memories.{is_edged, flow}
use Rattle.design_breaks.specs.declared.Break.{Break}
use Rattle.design_breaks.specs.Breaks.{breaks, least_of, unrolls, written_twice, read_early}
use Rattle.design_breaks.specs.Circles.{IsStuck}
use Rattle.break_laws.specs.Shapes.{Shaped, ShapedProcess, KeepsToBits, only_those}

-- the formals of the functions that a sight knows
abbrev pub formals_of : Sight → ℕ → List Parameter
formals_of k f = (k.around.callee f).formals

-- no loop's bounds are unknown or its variable written, exactly where all of them are bounded
abbrev pub LoopsAreBounded : Type 0
LoopsAreBounded = (s : Stmt) (k : Sight) → ((actions s).unbounded (formals_of k) k ≡ []) ↔ ((doing s).bounded k ≡ true)

-- a combinational process whose loops can be unrolled, and which doesn't break the rule on early reads, reads no bit of its own
-- before it wrote it
abbrev pub NothingIsReadEarly : Type 0
NothingIsReadEarly = (d : Design) (p : Process) → is_edged p.kind ≡ false → unrolls d p.body ≡ true → read_early d p ≡ []
    → (q : Place) → has (places (parts d)) q ≡ true → covered (uses_of (flow d p).writes) q ≡ true → some_token ((flow d p).early q) ≡ false

-- where all processes can be unrolled and none breaks the rule on two writers, no bit has two
abbrev pub BitsHaveOneWriter : Type 0
BitsHaveOneWriter = (d : Design) → length d.signals ≤ 2 ^ 32
    → ((n : ℕ) (p : Process) → slice_get d.processes n ≡ Some p → (unrolls d p.body ≡ true) × (written_twice d n p ≡ []))
    → OneWriter (λ (p : M.Process). p.writes) (machine d).combs × OneWriter (λ (p : M.EdgeProcess). p.writes) (machine d).edges

-- a process that names signals and locals with as many bits as they have keeps to these bits
abbrev pub BitsAreThere : Type 0
BitsAreThere = (d : Design) (p : Process) (s : ShapedProcess d p) → KeepsToBits d (only_those s.is_variable s.widths) p

-- where no process is stuck, all are free
abbrev pub ProcessesAreFree : Type 0
ProcessesAreFree = (d : Design) → ((p : Process) → IsStuck d p → ⊥) → (p : M.Process) → Member (machine d).combs p → Free (machine d).combs p

-- a list of breaks has a least one, unless it is empty
abbrev pub SomeBreakIsLeast : Type 0
SomeBreakIsLeast = (bs : List Break) → least_of bs ≡ None → bs ≡ []

-- no rule on processes or on their order is broken
pub record Unbroken (d : Design) : Type 0 where
  pub processes : least_of (breaks d) ≡ None
  pub order : (p : Process) → IsStuck d p → ⊥

-- A design that is shaped as an elaborated one and breaks none of these rules is a sound machine, and has exactly one trace for any
-- rows.
abbrev pub DesignsHaveOneTrace : Type 0
DesignsHaveOneTrace = (d : Design) → Shaped d → Unbroken d → Sound (machine d) × ((rows : List Valuation) → OneTrace (machine d) rows)
