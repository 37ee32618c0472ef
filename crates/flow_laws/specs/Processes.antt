-- What is known of a process before it runs holds in each run of it, whatever signals hold.
use Rattle.std.specs.Prelude.{◌≡◌, Bool, true, false, List, None, is_some}
use Rattle.row_machine.specs.Valuation.{Place, Valuation, Member, has, OneWriter}
use Rattle.row_machine.specs.Machine as M
use Rattle.row_machine.specs.Order.{Honest, WellWritten, Free, Sound}
use Rattle.row_machine.specs.Trace.{OneTrace}
use Rattle.sv_types.specs.declared.design.ProcessKind.{ProcessKind}
use Rattle.sv_types.specs.declared.design.ProcessKind.TheVariants.{Continuous, Link, Comb, Latch, Star, Edges}
use Rattle.sv_types.specs.declared.design.Process.{Process}
use Rattle.sv_types.specs.declared.design.Design.{Design}
use Rattle.sv_types.specs.declared.statement.Stmt.{Stmt}
use Rattle.sv_types.specs.Surroundings.{is_signal}
use Rattle.sv_types.specs.Flows.{Flow, covered, uses_of}
use Rattle.sv_types.specs.Statements.{Doing, doing}
use Rattle.sv_types.specs.Machine.{Parts, parts, places, unseen, ran, comb_of, edge_of_kind, machine}
use Rattle.flow_laws.specs.Runs.{Variables, is_beyond, some_token, Alike}
use Rattle.flow_laws.specs.Statements.{has_variables, GivesFinals}

abbrev pub waits_for_edges : ProcessKind → Bool
waits_for_edges Continuous = false
waits_for_edges (Link port) = false
waits_for_edges Comb = false
waits_for_edges Latch = false
waits_for_edges Star = false
waits_for_edges (Edges es) = true

module _ (d : Parts) where
  abbrev pub flow_of : Stmt → Flow
  flow_of s = (doing s).flow (unseen d)

  -- The bounds of its loops are known and their variables aren't written in them, and no bit is written that such a variable
  -- doesn't have.
  pub record Unrolls (s : Stmt) : Type 0 where
    pub variables : Variables
    pub has : has_variables variables s ≡ true
    pub bounded : (doing s).bounded (unseen d) ≡ true
    pub within : (q : Place) → is_beyond variables q ≡ true → covered (uses_of (flow_of s).writes) q ≡ false

  -- Each run ends as a path does, writes no bit that isn't said to be written, now or later, and writes each bit that no path
  -- leaves out which ends so. Two runs do the same where signals hold the same wherever a path reads before it writes.
  pub record RunsWithin (p : Doing) (f : Flow) : Type 0 where
    pub ends : (v : Valuation) → f.ends (ran d p v).outcome ≡ true
    pub within : (v : Valuation) (q : Place) → covered (uses_of f.writes) q ≡ false → (ran d p v).written q ≡ None
    pub later : (v : Valuation) (q : Place) → covered (uses_of f.later) q ≡ false → (ran d p v).pending q ≡ None
    pub sure : (v : Valuation) (q : Place) → f.slips (ran d p v).outcome q ≡ false → is_some ((ran d p v).written q) ≡ true
    pub same : (v u : Valuation) → ((q : Place) → is_signal q.signal ≡ true → some_token (f.early q) ≡ true → v q ≡ u q) → Alike (ran d p v) (ran d p u)

  -- What it names of signals are bits that these have; and unless it waits for edges it reads none of its own before it wrote it.
  pub record Ordered (kind : ProcessKind) (s : Stmt) : Type 0 where
    pub unrolls : Unrolls s
    pub reads : (q : Place) → is_signal q.signal ≡ true → covered (flow_of s).reads q ≡ true → has (places d) q ≡ true
    pub writes : (q : Place) → is_signal q.signal ≡ true → covered (uses_of (flow_of s).writes) q ≡ true → has (places d) q ≡ true
    pub later : (q : Place) → is_signal q.signal ≡ true → covered (uses_of (flow_of s).later) q ≡ true → has (places d) q ≡ true
    pub not_early : waits_for_edges kind ≡ false → (q : Place) → is_signal q.signal ≡ true → covered (uses_of (flow_of s).writes) q ≡ true → some_token ((flow_of s).early q) ≡ false

abbrev pub ProcessesRunWithin : Type 0
ProcessesRunWithin = (d : Parts) → GivesFinals (unseen d) → (s : Stmt) → Unrolls d s → RunsWithin d (doing s) (flow_of d s)

-- a combinational process hangs on its reads alone and writes only its own bits, and an edge process writes only its own
abbrev pub ProcessesAreHonest : Type 0
ProcessesAreHonest = (d : Parts) → GivesFinals (unseen d) → (kind : ProcessKind) (s : Stmt) → Ordered d kind s
    → ((p : M.Process) → Member (comb_of d (doing s) kind) p → Honest p)
    × ((p : M.EdgeProcess) → Member (edge_of_kind d (doing s) kind) p → (v : Valuation) (q : Place) → has p.writes q ≡ false → p.updates v q ≡ None)

-- so the machine of a design in which no bit has two writers is well written
abbrev pub MachinesAreWellWritten : Type 0
MachinesAreWellWritten = (d : Design) → ((p : Process) → Member d.processes p → Ordered (parts d) p.kind p.body)
    → OneWriter (λ (p : M.Process). p.writes) (machine d).combs → OneWriter (λ (p : M.EdgeProcess). p.writes) (machine d).edges → WellWritten (machine d)

-- and where no combinational process is stuck it has exactly one trace for any rows
abbrev pub DesignsHaveOneTrace : Type 0
DesignsHaveOneTrace = (d : Design) → ((p : Process) → Member d.processes p → Ordered (parts d) p.kind p.body)
    → OneWriter (λ (p : M.Process). p.writes) (machine d).combs → OneWriter (λ (p : M.EdgeProcess). p.writes) (machine d).edges
    → ((p : M.Process) → Member (machine d).combs p → Free (machine d).combs p)
    → Sound (machine d) × ((rows : List Valuation) → OneTrace (machine d) rows)
