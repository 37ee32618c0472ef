use Rattle.bit_needs.proofs.Touching.{touched-more, touched-all}
use Rattle.bit_needs.proofs.needing.touched.Goals as goal

pub loop-span-preserved : goal.loop-span-preserved
loop-span-preserved c = touched-more _ c.args.reads.now c.loop-span.span-index _ _ c.loop-span-test.true c.loop-span.invariant c.in_ok-add_touched.ensures

pub returns : goal.returns
returns c = touched-all _ c.args.reads.now c.loop-span.span-index _ c.loop-span-test.false c.loop-span.invariant
