-- The laws of machines over rows. Each is the contract of a function of this crate.
use Rattle.std.specs.Prelude.{◌≡◌, ◌↔◌, ◌⊎◌, ℕ, ◌<◌, true, false, List}
use Rattle.std.specs.List.{AllZip}
use Rattle.row_machine.specs.Valuation.{Valuation, Member, OneWriter}
use Rattle.row_machine.specs.Machine.{Process, Machine, Started}
use Rattle.row_machine.specs.Settle.{Settled, Settles}
use Rattle.row_machine.specs.Trace.{HasTrace, OneTrace}
use Rattle.row_machine.specs.Order.{WritesOwn, Sound, Free, follows, IsOrder, run}
use Rattle.row_machine.specs.Stuck.{Stuck, IsOrderOfPlaces, at_places}
use Rattle.row_machine.specs.Runs.{trace_of}
use Rattle.row_machine.specs.Rounds.{round_limit, Reaches, ChangesABit, HasRoundTrace}
use Rattle.row_machine.specs.Unsettled.{Unsettled}
use Rattle.row_machine.specs.Alike.{Alike}
use Rattle.row_machine.specs.Footprints.{SameRuns, SameTraces}
use Rattle.row_machine.specs.Agreement.{Map, TypedMachine, Simulates, SameRow, TracesAgree}
use Rattle.row_machine.specs.Dependence.{AddsNoDependence}
use Rattle.row_machine.specs.Translation.{Refines, Translates, identity}

-- over a base and a started set a sound machine has exactly one settled valuation
abbrev pub OneSettled : Type 0
OneSettled = (d : Machine) → Sound d → (s : Started) (base : Valuation)
    → (v : Valuation) × Settled d s base v × ((u : Valuation) → Settled d s base u → u ≡ v)

-- settling ends, in one way
abbrev pub SettlingEnds : Type 0
SettlingEnds = (d : Machine) → Sound d → (base : Valuation) (s : Started)
    → (t : Started) × (v : Valuation) × Settles d base s t v × ((u : Started) (w : Valuation) → Settles d base s u w → (u ≡ t) × (w ≡ v))

-- any rows have exactly one trace
abbrev pub EachHasOneTrace : Type 0
EachHasOneTrace = (d : Machine) → Sound d → (rows : List Valuation) → OneTrace d rows

-- processes that stand in an order are free
abbrev pub OrderFrees : Type 0
OrderFrees = (ps qs : List Process) → IsOrder ps qs → (p : Process) → Member ps p → Free ps p

-- so are processes none of which follows another
abbrev pub IndependentAreFree : Type 0
IndependentAreFree = (ps : List Process) → ((p q : Process) → Member ps p → Member ps q → follows p q ≡ false) → (p : Process) → Member ps p → Free ps p

-- places in an order give the processes in an order
abbrev pub PlacesAreAnOrder : Type 0
PlacesAreAnOrder = (ps : List Process) (d : Process) (ks : List ℕ) → OneWriter (λ (p : Process). p.writes) ps → IsOrderOfPlaces ps d ks → IsOrder ps (at_places ps d ks)

-- each process is free or stuck, and not both
abbrev pub FreeOrStuck : Type 0
FreeOrStuck = (ps : List Process) (p : Process) → Member ps p → (Free ps p ⊎ Stuck ps p) × (Free ps p → Stuck ps p → ⊥)

-- processes each of which follows one of them are stuck
abbrev pub LeftAreStuck : Type 0
LeftAreStuck = (ps left : List Process) → ((p : Process) → Member left p → Member ps p)
    → ((p : Process) → Member left p → (q : Process) × Member left q × (follows p q ≡ true)) → (p : Process) → Member left p → Stuck ps p

-- one run in an order settles
abbrev pub OneRunSettles : Type 0
OneRunSettles = (d : Machine) → Sound d → (qs : List Process) → IsOrder d.combs qs → (s : Started) (base : Valuation)
    → Settled d s base (run s qs base)

-- and running in an order, row by row, gives the trace
abbrev pub RunsTrace : Type 0
RunsTrace = (d : Machine) → Sound d → (qs : List Process) → IsOrder d.combs qs → (rows : List Valuation) → HasTrace d rows (trace_of d qs rows)

-- the rounds reach each settled valuation
abbrev pub RoundsReach : Type 0
RoundsReach = (d : Machine) → Sound d → (s : Started) (base v : Valuation) → Settled d s base v → Reaches d s base v

-- so the trace is the trace by rounds
abbrev pub RoundsTrace : Type 0
RoundsTrace = (d : Machine) → Sound d → (rows vs : List Valuation) → HasTrace d rows vs ↔ HasRoundTrace d rows vs

-- of any machine, sound or not, a trace by rounds is a trace, and there is at most one
abbrev pub RoundTraceIsTrace : Type 0
RoundTraceIsTrace = (d : Machine) (rows vs : List Valuation) → HasRoundTrace d rows vs → HasTrace d rows vs

abbrev pub OneRoundTrace : Type 0
OneRoundTrace = (d : Machine) (rows vs us : List Valuation) → HasRoundTrace d rows vs → HasRoundTrace d rows us → us ≡ vs

-- the rounds of any machine whose processes write their own bits reach a valuation, or each up to the limit changes a bit, and not both
abbrev pub ReachedOrChanging : Type 0
ReachedOrChanging = (d : Machine) → ((p : Process) → Member d.combs p → WritesOwn p) → (s : Started) (base : Valuation)
    → (((v : Valuation) × Reaches d s base v) ⊎ ((n : ℕ) → n < round_limit d → ChangesABit d s base n))
    × ((v : Valuation) → Reaches d s base v → ((n : ℕ) → n < round_limit d → ChangesABit d s base n) → ⊥)

-- so the rows of such a machine have a trace by rounds, or a settling that fails, and not both,
-- and it is one settling
abbrev pub TraceOrUnsettled : Type 0
TraceOrUnsettled = (d : Machine) → ((p : Process) → Member d.combs p → WritesOwn p) → (rows : List Valuation)
    → ((vs : List Valuation) × HasRoundTrace d rows vs) ⊎ ((k : ℕ) × (t : Started) × (base : Valuation) × Unsettled d rows k t base)

abbrev pub TraceIsSettled : Type 0
TraceIsSettled = (d : Machine) (rows vs : List Valuation) (k : ℕ) (t : Started) (base : Valuation) → HasRoundTrace d rows vs → Unsettled d rows k t base → ⊥

abbrev pub OneUnsettled : Type 0
OneUnsettled = (d : Machine) (rows : List Valuation) (k j : ℕ) (t u : Started) (base base' : Valuation)
    → Unsettled d rows k t base → Unsettled d rows j u base' → (j ≡ k) × (u ≡ t) × (base' ≡ base)

-- machines that are alike are equal
abbrev pub AlikeAreEqual : Type 0
AlikeAreEqual = (d e : Machine) → Alike d e → d ≡ e

-- machines that differ in what their processes are said to read and write have the same traces
abbrev pub FootprintsAreUnseen : Type 0
FootprintsAreUnseen = (d e : Machine) → SameRuns d e → SameTraces d e

-- a target that simulates its source has its traces
abbrev pub SimulationAgrees : Type 0
SimulationAgrees = (m : Map) (d e : Machine) → Simulates m d e → TypedMachine m d → Sound d → Sound e
    → (rows rows' : List Valuation) → AllZip (SameRow m d) rows rows' → TracesAgree m d e rows rows'

-- copies get no process stuck
abbrev pub TargetIsFree : Type 0
TargetIsFree = (m : Map) (d e : Machine) → AddsNoDependence m d e → ((p : Process) → Member d.combs p → Free d.combs p)
    → (t : Process) → Member e.combs t → Free e.combs t

-- a target that refines its source translates it
abbrev pub RefinementTranslates : Type 0
RefinementTranslates = (m : Map) (d e : Machine) → Refines m d e → Translates m d e

-- a target that is alike translates a sound source
abbrev pub AlikeTranslates : Type 0
AlikeTranslates = (d e : Machine) → Alike d e → Sound d → Translates identity d e
