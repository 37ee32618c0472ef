-- Machines that are alike at each point: the target of a design that needs no map.
use Rattle.std.specs.Prelude.{◌≡◌}
use Rattle.std.specs.List.{AllZip}
use Rattle.row_machine.specs.Valuation.{Place, Valuation}
use Rattle.row_machine.specs.Machine.{Process, EdgeProcess, Machine}

pub record AlikeProcesses (p t : Process) : Type 0 where
  pub from_zero : p.from_zero ≡ t.from_zero
  pub waits_for : p.waits_for ≡ t.waits_for
  pub reads : p.reads ≡ t.reads
  pub writes : p.writes ≡ t.writes
  pub assigns : (v : Valuation) (q : Place) → p.assigns v q ≡ t.assigns v q

pub record AlikeEdges (p t : EdgeProcess) : Type 0 where
  pub writes : p.writes ≡ t.writes
  pub runs : (v w : Valuation) → p.runs v w ≡ t.runs v w
  pub updates : (v : Valuation) (q : Place) → p.updates v q ≡ t.updates v q

pub record Alike (d e : Machine) : Type 0 where
  pub combs : AllZip AlikeProcesses d.combs e.combs
  pub edges : AllZip AlikeEdges d.edges e.edges
  pub inputs : d.inputs ≡ e.inputs
  pub initial : (q : Place) → d.initial q ≡ e.initial q
  pub start : (q : Place) → d.start q ≡ e.start q
