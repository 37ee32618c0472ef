use Rattle.std.proofs.Common.{arith}
use Rattle.cycle_dst.proofs.Collected.{combs-all}
use Rattle.cycle_dst.proofs.making.all_combs.Goals as goal

pub returns : goal.returns
returns c = combs-all c.args.ground c.requires.ground c.loop-k.k c.loop-k.combs (omega (arith, c.loop-k-test.false)) c.loop-k.invariant.pairs
