use Rattle.std.proofs.Common.{◌∙◌, arith}
use Rattle.frame_things.proofs.Hiding.{popped}
use Rattle.frame_things.proofs.rows.Rows.cut.Goals as goal

pub loop-self-preserved-in-loop-self : goal.loop-self-preserved-in-loop-self
loop-self-preserved-in-loop-self g c =
    popped c.pop.result c.loop-self.self c.pop.new.self c.args.len c.pop.ensures (omega (arith, c.len.ensures, c.loop-self-test.true)) ∙ c.loop-self.invariant
