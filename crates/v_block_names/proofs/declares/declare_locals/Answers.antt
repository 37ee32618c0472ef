use Rattle.v_block_names.proofs.Declaring.{local-step}
use Rattle.v_block_names.proofs.declares.declare_locals.Goals as goal

pub loop-at-preserved : goal.loop-at-preserved
loop-at-preserved c =
    local-step c.args.locals.now c.loop-at.at c.index-locals-at.result c.args.scope.now c.loop-at.scope c.declare.new.self c.loop-at-test.true c.loop-at.invariant.0
    c.index-locals-at.is c.loop-at.invariant.1 c.loop-at.invariant.2 c.in_ok-declare.ensures.declares c.in_ok-declare.ensures.hides
