use Rattle.std.proofs.Common.{arith}
use Rattle.cycle_dst.proofs.Collected.{edges-all}
use Rattle.cycle_dst.proofs.making.edges_of.Goals as goal

pub returns : goal.returns
returns c = edges-all c.args.ground c.requires c.loop-k.k c.loop-k.edges (omega (arith, c.loop-k-test.false)) c.loop-k.invariant
