use Rattle.v_block_names.proofs.Declaring.{part-step}
use Rattle.v_block_names.proofs.declares.declare_parts.Goals as goal

pub loop-at-preserved : goal.loop-at-preserved
loop-at-preserved c =
    part-step c.args.names.now c.loop-at.at c.index-names-at.result c.args.scope.now c.loop-at.scope c.declare.new.self c.loop-at-test.true c.loop-at.invariant.0
    c.index-names-at.is c.loop-at.invariant.1 c.loop-at.invariant.2 c.in_ok-declare.ensures.declares c.in_ok-declare.ensures.hides
