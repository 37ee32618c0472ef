use Rattle.comb_order.proofs.Collecting.{found-more}
use Rattle.comb_order.proofs.combs.comb_footprints.Goals as goal

pub loop-n-preserved : goal.loop-n-preserved
loop-n-preserved c =
    found-more _ c.args.flows.now c.args.numbers.now c.loop-n.n-index c.loop-n.footprints _ c.index-flows-n.result c.in_ok-footprint.footprint (c.requires c.loop-n.n-index c.loop-n-test.true) c.index-flows-n.is
    c.in_ok-footprint.ensures c.loop-n.invariant c.in_ok-push.ensures.ok
