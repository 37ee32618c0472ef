-- A target machine that translates a source machine.
use Rattle.std.specs.Prelude.{false, List, Some}
use Rattle.std.specs.List.{AllZip}
use Rattle.row_machine.specs.Valuation.{Valuation}
use Rattle.row_machine.specs.Machine.{Machine, Started}
use Rattle.row_machine.specs.Settle.{Settled}
use Rattle.row_machine.specs.Trace.{OneTrace}
use Rattle.row_machine.specs.Order.{Sound, WellWritten}
use Rattle.row_machine.specs.Rounds.{Reaches}
use Rattle.row_machine.specs.Agreement.{Map, TypedMachine, Simulates, SameRow, TracesAgree}
use Rattle.row_machine.specs.Dependence.{AddsNoDependence}

-- what is needed of a target
pub record Refines (m : Map) (d e : Machine) : Type 0 where
  pub source_sound : Sound d
  pub source_typed : TypedMachine m d
  pub target_well_written : WellWritten e
  pub simulates : Simulates m d e
  pub adds_no_dependence : AddsNoDependence m d e

-- what it gives: each machine has one trace for any rows, for rows that are alike the traces agree,
-- and in each settling of the target the rounds reach the settled valuation
pub record Translates (m : Map) (d e : Machine) : Type 0 where
  pub source_trace : (rows : List Valuation) → OneTrace d rows
  pub target_trace : (rows : List Valuation) → OneTrace e rows
  pub agree : (rows rows' : List Valuation) → AllZip (SameRow m d) rows rows' → TracesAgree m d e rows rows'
  pub reach : (s : Started) (base v : Valuation) → Settled e s base v → Reaches e s base v

-- the map of a target with the source's own bits and no others, none of them two-state
abbrev pub identity : Map
identity = record { origin = λ q. Some q; extra = λ v q. v q; two_state = λ q. false }
