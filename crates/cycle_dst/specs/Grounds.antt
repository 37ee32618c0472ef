-- What is known of a design and its processes before they are looked at one by one.
use Rattle.std.specs.Prelude.{◌≡◌, ℕ, ◌+◌, ◌<◌, ◌≤◌, ◌^◌, take, List, length, map, flat_map, Option, Some, slice_get, slice_index}
use Rattle.row_machine.specs.Machine as M
use Rattle.round_runner.specs.Stores.{Holds}
use Rattle.v_tree.specs.Rules.{Keeps}
use Rattle.v_rules.specs.Tables.{Tables}
use Rattle.v_instances.specs.Slots.{signal_of}
use Rattle.v_tree.specs.declared.statements.VBranch.{VBranch}
use Rattle.v_meaning.specs.Scopes.{Scope}
use Rattle.v_meaning.specs.Statements.{doing_of}
use Rattle.v_meaning.specs.Modules.{Process, on_change, signals, items_of, parts}
use Rattle.v_meaning.specs.Machine as V
use Rattle.v_modules.specs.Tables as T
use Rattle.v_processes.specs.declared.process.Proc.{Proc}
use Rattle.v_processes.specs.Processes.{does_in, process_at, processes_at}
use Rattle.v_zero.specs.Laws.{ListsNames}
use Rattle.cycle_dst.specs.declared.combs.Comb.{Comb}
use Rattle.cycle_dst.specs.declared.ground.Ground.{Ground}
use Rattle.cycle_dst.specs.Circuits.{CombMade, CombOf, EdgeOf, Runnable, comb_at, edge_at}
use Rattle.cycle_dst.specs.Designs.{widths_of}
use Rattle.cycle_dst.specs.Pairs.{Pairs}

-- how many signals the top has itself
abbrev pub own_of : Ground → ℕ
own_of g = length (signals (items_of g.design.now.modules g.top.now))

abbrev pub widths_in : Ground → List ℕ
widths_in g = widths_of g.design.now g.top.now

abbrev pub machine_in : Ground → M.Machine
machine_in g = V.machine g.design.now g.top.now

abbrev pub processes_in : Ground → List Process
processes_in g = (parts g.design.now.modules g.top.now).processes

pub record IsGround (g : Ground) : Type 0 where
  pub keeps : Keeps g.design.now
  pub numbers : Tables g.numbers.now g.design.now.modules
  pub tables : map T.items_of g.tables.now ≡ map T.items_in g.design.now.modules
  pub processes : processes_at g.design.now.modules g.procs.now ≡ (parts g.design.now.modules g.top.now).processes
  pub slots : map signal_of g.slots.now ≡ (parts g.design.now.modules g.top.now).signals
  pub few : length (widths_in g) ≤ 2 ^ 32
  pub runnable : Runnable (widths_in g) g.tables.now g.procs.now
  pub initial : Holds (widths_in g) (machine_in g).initial g.initial.now
  pub given : Holds (widths_in g) (V.given (own_of g) (parts g.design.now.modules g.top.now)) g.given.now

-- all marks are below a number
pub record Below (marks : List ℕ) (n : ℕ) : Type 0 where
  pub below : (m : ℕ) → m < length marks → slice_index marks m < n

-- the process with a number is an `always @*` with this body
pub record StarOf (g : Ground) (k : ℕ) (body : VBranch) : Type 0 where
  pub does : (p : Proc) → slice_get g.procs.now k ≡ Some p → (sc : Scope) → does_in p.does sc ≡ record { starts = on_change; scope = sc; does = doing_of body }

-- the names that the process with a number has are listed
pub record NamesListed (g : Ground) (k : ℕ) (names : List ℕ) : Type 0 where
  pub listed : (p : Proc) → slice_get g.procs.now k ≡ Some p → ListsNames (parts g.design.now.modules g.top.now) (process_at g.design.now.modules p) names

-- what is kept of the process with a number that runs on changes
pub record StarMade (g : Ground) (k : ℕ) (c : Comb) : Type 0 where
  pub made : (p : Proc) → slice_get g.procs.now k ≡ Some p → (process_at g.design.now.modules p).starts ≡ on_change → CombMade g.design.now g.top.now p k (Some c) (comb_at g.design.now g.top.now p)

-- and of any one, if it is combinational
pub record Made (g : Ground) (k : ℕ) (o : Option Comb) : Type 0 where
  pub made : (p : Proc) → slice_get g.procs.now k ≡ Some p → CombMade g.design.now g.top.now p k o (comb_at g.design.now g.top.now p)

-- the combinational processes and the edge processes among these
abbrev pub combs_among : Ground → List Proc → List M.Process
combs_among g ps = flat_map (comb_at g.design.now g.top.now) ps

abbrev pub edges_among : Ground → List Proc → List M.EdgeProcess
edges_among g ps = flat_map (edge_at g.design.now g.top.now) ps

abbrev pub CombsOf : Ground → List Comb → List M.Process → Type 0
CombsOf g cs ms = Pairs (CombOf (widths_in g) g.tables.now g.procs.now) cs ms

abbrev pub EdgesOf : Ground → List ℕ → List M.EdgeProcess → Type 0
EdgesOf g ks ms = Pairs (EdgeOf g.tables.now g.procs.now) ks ms

-- the process with a number has been added to those before it
pub record CombAdded (g : Ground) (k : ℕ) (old new : List Comb) : Type 0 where
  pub added : CombsOf g old (combs_among g (take k g.procs.now)) → CombsOf g new (combs_among g (take (k + 1) g.procs.now))

pub record EdgeAdded (g : Ground) (k : ℕ) (old new : List ℕ) : Type 0 where
  pub added : EdgesOf g old (edges_among g (take k g.procs.now)) → EdgesOf g new (edges_among g (take (k + 1) g.procs.now))
