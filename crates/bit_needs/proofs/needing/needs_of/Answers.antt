use Rattle.std.proofs.Common.{arith}
use Rattle.bit_needs.proofs.Laws.{needs-are, each-more}
use Rattle.bit_needs.proofs.needing.needs_of.Goals as goal

pub loop-f-preserved : goal.loop-f-preserved
loop-f-preserved c = each-more _ c.args.footprints.now c.loop-f.f-index c.loop-f.needs _ _ c.f-item.result c.in_ok-list.list c.loop-f-test.true c.f-item.is c.loop-f.invariant c.as_slice.ensures c.in_ok-list.ensures c.in_ok-push.ensures.ok

pub returns : goal.returns
returns c = needs-are c.args.footprints.now _ c.in_ok-writers.ensures c.loop-f.f-index c.loop-f.needs c.loop-f-test.false (omega arith) c.loop-f.invariant
