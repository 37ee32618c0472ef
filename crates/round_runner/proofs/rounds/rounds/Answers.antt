use Rattle.std.proofs.Common.{ap, ◌∙◌, subst}
use Rattle.round_runner.specs.Stores.{vector_of, FirstChange}
use Rattle.round_runner.specs.Rounds.{IsRound}
use Rattle.round_runner.proofs.Running.{running_on, go_on}
use Rattle.round_runner.proofs.rounds.rounds.Goals as goal

pub returns-then-left-eq0 : goal.returns-then-left-eq0
returns-then-left-eq0 g c =
    let d = g.P.Processes.machine c.args.machine.now in
    let now = c.rounds.now.items in
    let next = c.in_ok-next.next.items in
    go_on d c.args.started.now c.args.base.now now next c.rounds.left c.in-Some.signal c.in_ok-change_at-in-Some.field-0 c.if-left-eq0.true
    (subst (λ vs. IsRound d c.args.started.now c.args.base.now vs next) c.deref.ensures.value c.in_ok-next.ensures)
    (subst (λ vs. FirstChange vs next c.in-Some.signal) c.deref-in-rounds.ensures.value
    (subst (λ vs. FirstChange c.deref-in-rounds.result.now vs c.in-Some.signal) c.deref-in-rounds-2.ensures.value c.in-Some.ensures))
    c.in_ok-change_at-in-Some.ensures.signal
    (c.in_ok-change_at-in-Some.ensures.before ∙ ap (λ vs. vector_of vs c.in-Some.signal) c.deref-then-left-eq0.ensures.value)
    (c.in_ok-change_at-in-Some.ensures.after ∙ ap (λ vs. vector_of vs c.in-Some.signal) c.deref-then-left-eq0-2.ensures.value)
    c.rounds.invariant

pub rounds-preserved : goal.rounds-preserved
rounds-preserved g c =
    let d = g.P.Processes.machine c.args.machine.now in
    let now = c.rounds.now.items in
    let next = c.in_ok-next.next.items in
    let change : FirstChange now next c.in-Some.signal =
    subst (λ vs. FirstChange vs next c.in-Some.signal) c.deref-in-rounds.ensures.value
    (subst (λ vs. FirstChange c.deref-in-rounds.result.now vs c.in-Some.signal) c.deref-in-rounds-2.ensures.value c.in-Some.ensures) in
    running_on d c.args.started.now c.args.base.now now next c.rounds.left (record { signal = c.in-Some.signal; bit = change.bit }) c.if-left-eq0.false
    (subst (λ vs. IsRound d c.args.started.now c.args.base.now vs next) c.deref.ensures.value c.in_ok-next.ensures)
    change.differs
    c.rounds.invariant
