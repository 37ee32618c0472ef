-- The proofs of the laws, as crates above cite them.
use Rattle.row_machine.specs.Machine.{at_zero}
use Rattle.row_machine.specs.Settle.{Settled}
use Rattle.row_machine.specs.Order.{free, follows}
use Rattle.row_machine.specs.Laws.{FootprintsAreUnseen, TraceOrUnsettled, TraceIsSettled, OneUnsettled, ReachedOrChanging, PlacesAreAnOrder, FreeOrStuck, LeftAreStuck, OneSettled, SettlingEnds, EachHasOneTrace, OrderFrees, IndependentAreFree, OneRunSettles, RunsTrace, RoundsReach, RoundsTrace, RoundTraceIsTrace, OneRoundTrace, AlikeAreEqual, SimulationAgrees, TargetIsFree, RefinementTranslates, AlikeTranslates}
use Rattle.row_machine.proofs.Basics.{clash}
use Rattle.row_machine.proofs.Settled.{settled_once}
use Rattle.row_machine.proofs.Settling.{settled_at, settles}
use Rattle.row_machine.proofs.Unique.{settles_once}
use Rattle.row_machine.proofs.Rounds.{reaches}
use Rattle.row_machine.proofs.Traces as Traces
use Rattle.row_machine.proofs.Orders as Orders
use Rattle.row_machine.proofs.RoundTraces as RoundTraces
use Rattle.row_machine.proofs.RoundsEnd as RoundsEnd
use Rattle.row_machine.proofs.Unsettled as Unsettled
use Rattle.row_machine.proofs.OrderOfPlaces as OrderOfPlaces
use Rattle.row_machine.proofs.Stuck as Stuck
use Rattle.row_machine.proofs.Runs as Runs
use Rattle.row_machine.proofs.Alike as Alike
use Rattle.row_machine.proofs.Footprints as Footprints
use Rattle.row_machine.proofs.TracesAgree as TracesAgree
use Rattle.row_machine.proofs.Dependence as Dependence
use Rattle.row_machine.proofs.Translation as Translation

pub one_settled : OneSettled
one_settled d sound s base =
    let r = settled_at d sound base s in
    (r.0, r.1, λ u settled. settled_once d sound s base u r.0 settled r.1)

pub settling_ends : SettlingEnds
settling_ends d sound base s =
    let r = settles d sound base s in
    (r.0, r.1, r.2, λ u w settling. settles_once (Settled d) (λ s base v u x y. settled_once d sound s base u v y x) d r.2 settling)

pub one_trace : EachHasOneTrace
one_trace = Traces.one_trace

pub order_frees : OrderFrees
order_frees = Orders.order_frees

pub independent_are_free : IndependentAreFree
independent_are_free ps none p m = free (λ q mq f. clash (follows p q) f (none p q m mq))

pub places_are_an_order : PlacesAreAnOrder
places_are_an_order ps d ks one order = OrderOfPlaces.order_of_places ps d one ks order

pub free_or_stuck : FreeOrStuck
free_or_stuck ps p m = (Stuck.free_or_stuck ps p m, Stuck.free_not_stuck ps p)

pub left_are_stuck : LeftAreStuck
left_are_stuck = Stuck.left_are_stuck

pub one_run_settles : OneRunSettles
one_run_settles = Runs.one_run

pub runs_trace : RunsTrace
runs_trace = Runs.runs_trace

pub rounds_reach : RoundsReach
rounds_reach d sound s base v settled = reaches d sound s base v settled

pub rounds_trace : RoundsTrace
rounds_trace d sound rows vs = (λ t. RoundTraces.trace_round_trace d sound t, λ t. RoundTraces.round_trace_trace d t)

pub round_trace_is_trace : RoundTraceIsTrace
round_trace_is_trace d rows vs t = RoundTraces.round_trace_trace d t

pub one_round_trace : OneRoundTrace
one_round_trace d rows vs us a b = RoundTraces.round_trace_once d a b

pub reached_or_changing : ReachedOrChanging
reached_or_changing d own s base = (RoundsEnd.reached_or_changing d own s base, RoundsEnd.not_both d s base)

pub trace_or_unsettled : TraceOrUnsettled
trace_or_unsettled d own rows = Unsettled.traced_or_unsettled d own rows d.initial d.start at_zero

pub trace_is_settled : TraceIsSettled
trace_is_settled d rows vs k t base trace failing = Unsettled.not_unsettled d trace failing

pub one_unsettled : OneUnsettled
one_unsettled d rows k j t u base base' a b = Unsettled.unsettled_once d a b

pub alike_are_equal : AlikeAreEqual
alike_are_equal = Alike.same_machine

pub simulation_agrees : SimulationAgrees
simulation_agrees m d e simulates typed sound_d sound_e = TracesAgree.traces_agree m d e simulates typed sound_d sound_e

pub target_is_free : TargetIsFree
target_is_free = Dependence.target_free

pub refinement_translates : RefinementTranslates
refinement_translates = Translation.translates

pub alike_translates : AlikeTranslates
alike_translates = Translation.alike_translates

pub footprints_are_unseen : FootprintsAreUnseen
footprints_are_unseen = Footprints.same_traces
