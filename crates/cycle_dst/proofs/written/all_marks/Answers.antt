use Rattle.std.proofs.Common.{arith}
use Rattle.cycle_dst.proofs.Covering.{all-marked}
use Rattle.cycle_dst.proofs.written.all_marks.Goals as goal

pub returns : goal.returns
returns c = all-marked c.args.row.now.widths c.args.set.now c.loop-n.n c.loop-n.all (omega (arith, c.loop-n-test.false)) c.loop-n.invariant
