use Rattle.std.proofs.Common.{◌+◌, ◌<◌, length, arith, false, sym, subst}
use Rattle.round_runner.proofs.OneRound.{Rounding, rounding_told, rounding_untold}
use Rattle.round_runner.proofs.round.put_round.Goals as goal
use Rattle.round_runner.proofs.round.put_round.Goals.{then-started-i+in_ok-run, else-started-i}

pub loop-i-preserved : goal.loop-i-preserved
loop-i-preserved g c =
    let d = g.P.Processes.machine c.args.machine.now in
    let room : c.loop-i.i < length d.combs = omega (arith, c.requires.started) in
    elim c.if-started-i.branch [
      | then-started-i+in_ok-run w ↦
          subst (λ made. Rounding d c.args.started.now c.args.to.now c.args.held.now made (c.loop-i.i + 1)) (sym w.to-is)
          (rounding_told d c.args.started.now c.args.to.now c.args.held.now c.loop-i.to w.run.new.to c.loop-i.i false room w.if-started-i.true
          w.in_ok-run.ensures
          c.loop-i.invariant)
      | else-started-i w ↦
          subst (λ made. Rounding d c.args.started.now c.args.to.now c.args.held.now made (c.loop-i.i + 1)) (sym w.to-is)
          (rounding_untold d c.args.started.now c.args.to.now c.args.held.now c.loop-i.to c.loop-i.i false room w.if-started-i.false c.loop-i.invariant)
    ]
