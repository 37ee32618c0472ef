use Rattle.bit_clashes.proofs.Placed.{placed-more, placed-all}
use Rattle.bit_clashes.proofs.are_placed.Goals as goal

pub loop-p-preserved : goal.loop-p-preserved
loop-p-preserved c = placed-more c.args.pieces.now c.loop-p.p-index c.loop-p.invariant c.place_of-place.ensures.placed

pub returns : goal.returns
returns c = placed-all c.args.pieces.now c.loop-p.p-index c.loop-p-test.false c.loop-p.invariant
