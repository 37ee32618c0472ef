use Rattle.std.proofs.Common.{IsTrue, subst}
use Rattle.std.proofs.lemmas.Bool.{false≢true}
use Rattle.round_runner.specs.Plans.{Remade, AreChanges, Taken, AreTold}
use Rattle.round_runner.proofs.Telling.{some_in}
use Rattle.round_runner.proofs.Changing.{ends_now, changing_on}
use Rattle.round_runner.proofs.planned.rounds_from_base.Goals as goal

pub returns-then-left-eq0 : goal.returns-then-left-eq0
returns-then-left-eq0 g c =
    let d = g.P.Processes.machine c.args.machine.now in
    let base = c.args.base.now in
    let flags = c.args.started.now in
    let groups = c.rounds.groups in
    ends_now d c.args.plan.now flags base c.rounds.now c.rounds.next c.remake_all.new.to groups c.rounds.left c.requires.plan
    (subst (λ gs. Remade d c.args.plan.now flags base c.rounds.now gs c.rounds.next c.remake_all.new.to) c.as_slice.ensures c.in_ok-remake_all.ensures)
    c.rounds.invariant c.in_ok-ended.ended c.if-left-eq0.true c.in_ok-ended.ensures

pub rounds-preserved : goal.rounds-preserved
rounds-preserved g c =
    let d = g.P.Processes.machine c.args.machine.now in
    let plan = c.args.plan.now in
    let base = c.args.base.now in
    let flags = c.args.started.now in
    let groups = c.rounds.groups in
    let ns = c.in_ok-changed.changed in
    let one = some_in ns (λ none. false≢true (subst IsTrue c.if-is_empty.false (c.is_empty.ensures.1 none))) in
    changing_on d plan flags base c.rounds.now c.rounds.next c.remake_all.new.to groups c.rounds.left c.requires.plan
    (subst (λ gs. Remade d plan flags base c.rounds.now gs c.rounds.next c.remake_all.new.to) c.as_slice.ensures c.in_ok-remake_all.ensures)
    c.rounds.invariant ns c.in_ok-groups-2.groups c.take_vectors.new.to
    (subst (λ gs. AreChanges plan gs c.rounds.now c.remake_all.new.to ns) c.as_slice-in-rounds.ensures c.in_ok-changed.ensures)
    (subst (λ ms. Taken ms c.remake_all.new.to c.rounds.now c.take_vectors.new.to) c.as_slice-in-rounds-2.ensures c.in_ok-take_vectors.ensures)
    (subst (λ ms. AreTold plan ms c.in_ok-groups-2.groups) c.as_slice-in-rounds-3.ensures c.in_ok-groups-2.ensures)
    one.0 c.if-left-eq0.false one.1
