-- What is kept of the processes of a design is what its machine has.
use Rattle.std.specs.Prelude.{◌≡◌, ℕ, ◌<◌, Bool, true, false, List, [], ◌∷◌, length, map, Option, Some, None, slice_get}
use Rattle.std.specs.List.{list_any}
use Rattle.row_machine.specs.Valuation.{Valuation}
use Rattle.row_machine.specs.Machine as M
use Rattle.v_tree.specs.Names.{Name}
use Rattle.v_tree.specs.declared.items.VDesign.{VDesign}
use Rattle.v_meaning.specs.Modules.{Process, signals, items_of, parts, scope_of}
use Rattle.v_meaning.specs.Machine.{comb_of, edge_of_process, to_signals, has_edge}
use Rattle.v_stores.specs.Waits.{named_places}
use Rattle.b4_core.specs.declared.bit.Bit4.{Bit4}
use Rattle.round_runner.specs.Stores.{holding, Changed}
use Rattle.v_exec.specs.Modules.{FunctionsNarrow}
use Rattle.v_modules.specs.Tables as T
use Rattle.v_modules.specs.declared.table.Table.{Table}
use Rattle.v_processes.specs.declared.process.Does.{Does}
use Rattle.v_processes.specs.declared.process.Does.TheVariants as D
use Rattle.v_processes.specs.declared.process.EdgeOn.{EdgeOn}
use Rattle.v_processes.specs.declared.process.Proc.{Proc}
use Rattle.v_processes.specs.Processes.{does_in, process_at, edge_of}
use Rattle.v_steps.specs.Steps.{ran, DoesNarrow, DoesFit}
use Rattle.cycle_dst.specs.Designs.{widths_of}
use Rattle.cycle_dst.specs.declared.combs.Comb.{Comb}

-- the combinational process and the edge process that a process of a design is, if it is one
abbrev pub comb_at : VDesign → Name → Proc → List M.Process
comb_at e top p =
    let q = process_at e.modules p in
    comb_of (length (signals (items_of e.modules top))) (parts e.modules top) q.starts q

abbrev pub edge_at : VDesign → Name → Proc → List M.EdgeProcess
edge_at e top p =
    let q = process_at e.modules p in
    edge_of_process (length (signals (items_of e.modules top))) (parts e.modules top) q.starts q

-- a process that is started at time zero or not, and waits for all bits of these signals
pub record CombIs (e : VDesign) (top : Name) (p : Proc) (c : Comb) (m : M.Process) : Type 0 where
  pub from_zero : c.from_zero ≡ m.from_zero
  pub waits : m.waits_for ≡ named_places c.waits (widths_of e top)
  pub assigns : (v : Valuation) → m.assigns v ≡ to_signals (ran (process_at e.modules p) v).written

-- what is kept of a process, if it is combinational
abbrev pub CombMade : VDesign → Name → Proc → ℕ → Option Comb → List M.Process → Type 0
CombMade e top p k None ms = ms ≡ []
CombMade e top p k (Some c) ms = (c.process ≡ k) × ((m : M.Process) × (ms ≡ m ∷ []) × CombIs e top p c m)

-- the edges that a process waits for
abbrev pub edges_in : Does → List EdgeOn
edges_in (D.Assign to value) = []
edges_in (D.Star body) = []
edges_in (D.Edges edges body) = edges
edges_in (D.Into port value) = []
edges_in (D.From to port) = []

abbrev pub waits_for_edges : Does → Bool
waits_for_edges (D.Assign to value) = false
waits_for_edges (D.Star body) = false
waits_for_edges (D.Edges edges body) = true
waits_for_edges (D.Into port value) = false
waits_for_edges (D.From to port) = false

pub record EdgeIs (e : VDesign) (p : Proc) (m : M.EdgeProcess) : Type 0 where
  pub runs : (v w : Valuation) → m.runs v w ≡ list_any (has_edge v w) (map edge_of (edges_in p.does))
  pub updates : (v : Valuation) → m.updates v ≡ to_signals (ran (process_at e.modules p) v).pending

-- what a process does by the table of its module
abbrev pub process_in : Proc → Table → Process
process_in p t = does_in p.does (scope_of p.first (T.items_of t))

-- what is kept of a combinational process among these, by the tables of their modules, over signals of so many bits
pub record CombOf (ws : List ℕ) (ts : List Table) (ps : List Proc) (c : Comb) (m : M.Process) : Type 0 where
  pub there : c.process < length ps
  pub from_zero : c.from_zero ≡ m.from_zero
  pub waits : m.waits_for ≡ named_places c.waits ws
  pub assigns : (p : Proc) (t : Table) → slice_get ps c.process ≡ Some p → slice_get ts p.of ≡ Some t → (v : Valuation) → m.assigns v ≡ to_signals (ran (process_in p t) v).written

-- and the edge process with a number
pub record EdgeOf (ts : List Table) (ps : List Proc) (k : ℕ) (m : M.EdgeProcess) : Type 0 where
  pub there : k < length ps
  pub runs : (p : Proc) → slice_get ps k ≡ Some p → (v w : Valuation) → m.runs v w ≡ list_any (has_edge v w) (map edge_of (edges_in p.does))
  pub updates : (p : Proc) (t : Table) → slice_get ps k ≡ Some p → slice_get ts p.of ≡ Some t → (v : Valuation) → m.updates v ≡ to_signals (ran (process_in p t) v).pending

-- a process can be run by the table of its module, over signals of so many bits
pub record RunsIn (ws : List ℕ) (p : Proc) (t : Table) : Type 0 where
  pub functions : FunctionsNarrow p.first t.names
  pub narrow : DoesNarrow p.does (scope_of p.first (T.items_of t))
  pub fits : DoesFit p.does (scope_of p.first (T.items_of t)).names ws

pub record RunsByTable (ws : List ℕ) (ts : List Table) (p : Proc) : Type 0 where
  pub there : p.of < length ts
  pub runs : (t : Table) → slice_get ts p.of ≡ Some t → RunsIn ws p t

-- each of these can
pub record Runnable (ws : List ℕ) (ts : List Table) (ps : List Proc) : Type 0 where
  pub each : (k : ℕ) (p : Proc) → slice_get ps k ≡ Some p → RunsByTable ws ts p

-- whether one of the edges comes that the process with a number waits for
pub record EdgeCame (ps : List Proc) (k : ℕ) (last now : List (List Bit4)) (answer : Bool) : Type 0 where
  pub told : (p : Proc) → slice_get ps k ≡ Some p → answer ≡ list_any (has_edge (holding last) (holding now)) (map edge_of (edges_in p.does))

-- what the process with a number writes, or will update, by what one store holds is put over another one
pub record RanOver (ts : List Table) (ps : List Proc) (k : ℕ) (held before after : List (List Bit4)) : Type 0 where
  pub done : (p : Proc) (t : Table) → slice_get ps k ≡ Some p → slice_get ts p.of ≡ Some t → Changed (to_signals (ran (process_in p t) (holding held)).written) before after

pub record UpdatedOver (ts : List Table) (ps : List Proc) (k : ℕ) (held before after : List (List Bit4)) : Type 0 where
  pub done : (p : Proc) (t : Table) → slice_get ps k ≡ Some p → slice_get ts p.of ≡ Some t → Changed (to_signals (ran (process_in p t) (holding held)).pending) before after
