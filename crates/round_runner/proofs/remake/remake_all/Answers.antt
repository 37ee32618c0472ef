use Rattle.std.proofs.Common.{◌<◌, length, slice_index_or, refl, arith}
use Rattle.round_runner.proofs.Groups.{remade_more}
use Rattle.round_runner.proofs.remake.remake_all.Goals as goal

pub loop-group-preserved : goal.loop-group-preserved
loop-group-preserved g c =
    let gs = c.args.groups.now in
    let i = c.loop-group.group-index in
    let room : i < length gs = omega arith in
    remade_more (g.P.Processes.machine c.args.machine.now) c.args.plan.now c.args.started.now c.args.base.now c.args.held.now c.args.to.now c.loop-group.to c.remake.new.to gs i
    (slice_index_or gs i 0) room refl c.loop-group.invariant c.in_ok-remake.ensures
