use Rattle.std.proofs.Common.{arith, subst}
use Rattle.peel.specs.Steps.{AreHeld}
use Rattle.peel.proofs.Ending.{peeled_at_end}
use Rattle.peel.proofs.peeling.peel.Goals as goal

pub returns : goal.returns
returns c =
    peeled_at_end c.args.needs.now c.loop-p.peeling c.in_ok-left.left c.loop-p.invariant.going c.loop-p.invariant.ended
    (λ q low. c.loop-p.invariant.met q (omega arith))
    (subst (λ marks. AreHeld marks c.in_ok-left.left) c.as_slice.ensures c.in_ok-left.ensures)
