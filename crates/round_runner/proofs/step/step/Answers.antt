use Rattle.std.proofs.Common.{subst}
use Rattle.round_runner.specs.declared.rounds.Ended.TheVariants.{Rests, Changes}
use Rattle.round_runner.specs.Settling.{SettlingEnds}
use Rattle.round_runner.specs.Rows.{WithUpdates}
use Rattle.round_runner.proofs.Stepping.{inputs_fail, step_ends}
use Rattle.round_runner.proofs.step.step.Goals as goal

pub returns-in-Changes : goal.returns-in-Changes
returns-in-Changes g c =
    let d = g.P.Processes.machine c.args.machine.now in
    inputs_fail d (g.P.Processes.inputs c.args.machine.now) c.args.row.now c.args.last.now c.args.held.now c.in_ok-base.base.items c.args.started.now c.in_ok-base.ensures c.in-Changes.change
    (subst (λ vs. SettlingEnds d vs c.args.started.now c.settle.new.started (Changes c.in-Changes.change)) c.deref.ensures.value
    (subst (SettlingEnds d c.deref.result.now c.args.started.now c.settle.new.started) c.in-Changes.is c.in_ok-change.ensures))

pub returns : goal.returns
returns g c =
    let d = g.P.Processes.machine c.args.machine.now in
    step_ends d (g.P.Processes.inputs c.args.machine.now) c.args.row.now c.args.last.now c.args.held.now c.in_ok-base.base.items c.args.started.now c.in_ok-base.ensures
    c.settle.new.started c.settle-in-Rests.new.started c.in-Rests.quiet c.in_ok-base-in-Rests.base.items
    (subst (λ vs. SettlingEnds d vs c.args.started.now c.settle.new.started (Rests c.in-Rests.quiet)) c.deref.ensures.value
    (subst (SettlingEnds d c.deref.result.now c.args.started.now c.settle.new.started) c.in-Rests.is c.in_ok-change.ensures))
    (subst (λ vs. WithUpdates d (g.P.Processes.inputs c.args.machine.now) c.args.row.now c.args.last.now vs c.in_ok-base-in-Rests.base.items) c.as_slice.ensures c.in_ok-base-in-Rests.ensures)
    c.in_ok-ended-in-Rests.ended
    (subst (λ vs. SettlingEnds d vs c.settle.new.started c.settle-in-Rests.new.started c.in_ok-ended-in-Rests.ended) c.deref-in-Rests.ensures.value c.in_ok-ended-in-Rests.ensures)
