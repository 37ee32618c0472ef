use Rattle.std.proofs.Common.{subst}
use Rattle.round_runner.specs.Rounds.{RoundsEnd}
use Rattle.round_runner.specs.Settling.{Woken}
use Rattle.round_runner.proofs.Waiting.{onward_more, settles_here, fails_here}
use Rattle.round_runner.proofs.settle.settle.Goals as goal

pub returns-in-Changes : goal.returns-in-Changes
returns-in-Changes g c =
    let d = g.P.Processes.machine c.args.machine.now in
    fails_here d c.args.base.now c.args.started.now c.starts.started c.in-Changes.change
    (subst (RoundsEnd d c.starts.started c.args.base.now) c.in-Changes.is c.in_ok-change.ensures)
    c.starts.invariant

pub returns-then-not-wake : goal.returns-then-not-wake
returns-then-not-wake g c =
    let d = g.P.Processes.machine c.args.machine.now in
    settles_here d c.args.base.now c.in-Rests.now c.args.started.now c.starts.started c.wake.new.started c.wake.result
    (subst (RoundsEnd d c.starts.started c.args.base.now) c.in-Rests.is c.in_ok-change.ensures)
    (subst (λ vs. Woken d vs c.starts.started c.wake.new.started c.wake.result) c.as_slice.ensures c.wake.ensures.woken)
    c.if-not-wake.true
    c.starts.invariant

pub starts-preserved : goal.starts-preserved
starts-preserved g c =
    let d = g.P.Processes.machine c.args.machine.now in
    onward_more d c.args.base.now c.in-Rests.now c.args.started.now c.starts.started c.wake.new.started c.wake.result
    (subst (RoundsEnd d c.starts.started c.args.base.now) c.in-Rests.is c.in_ok-change.ensures)
    (subst (λ vs. Woken d vs c.starts.started c.wake.new.started c.wake.result) c.as_slice.ensures c.wake.ensures.woken)
    c.if-not-wake.false
    c.starts.invariant
