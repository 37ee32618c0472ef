-- Machines whose processes run alike, and are said to read and write other bits. A trace doesn't look at these.
use Rattle.std.specs.Prelude.{◌≡◌, ◌↔◌, ◌≤◌, List}
use Rattle.std.specs.List.{AllZip}
use Rattle.row_machine.specs.Valuation.{Place, Valuation, has}
use Rattle.row_machine.specs.Machine.{Process, EdgeProcess, Machine}
use Rattle.row_machine.specs.Trace.{HasTrace}
use Rattle.row_machine.specs.Rounds.{written_bits, HasRoundTrace}

pub record RunAlike (p t : Process) : Type 0 where
  pub from_zero : p.from_zero ≡ t.from_zero
  pub waits_for : p.waits_for ≡ t.waits_for
  pub assigns : (v : Valuation) (q : Place) → p.assigns v q ≡ t.assigns v q

pub record UpdateAlike (p t : EdgeProcess) : Type 0 where
  pub runs : (v w : Valuation) → p.runs v w ≡ t.runs v w
  pub updates : (v : Valuation) (q : Place) → p.updates v q ≡ t.updates v q

-- the same machine but for what its processes are said to read and write
pub record SameRuns (d e : Machine) : Type 0 where
  pub combs : AllZip RunAlike d.combs e.combs
  pub edges : AllZip UpdateAlike d.edges e.edges
  pub inputs : (q : Place) → has d.inputs q ≡ has e.inputs q
  pub initial : (q : Place) → d.initial q ≡ e.initial q
  pub start : (q : Place) → d.start q ≡ e.start q

-- The traces of both are the same, and so are those by rounds, as far as the limit of the second machine isn't lower.
pub record SameTraces (d e : Machine) : Type 0 where
  pub traces : (rows vs : List Valuation) → HasTrace d rows vs ↔ HasTrace e rows vs
  pub rounds : written_bits d.combs ≤ written_bits e.combs → (rows vs : List Valuation) → HasRoundTrace d rows vs → HasRoundTrace e rows vs
