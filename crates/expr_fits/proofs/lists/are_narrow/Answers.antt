use Rattle.std.proofs.Common.{refl, arith}
use Rattle.eval_parts.specs.Targets.{AllNarrow}
use Rattle.expr_fits.proofs.Walks.{next, done}
use Rattle.expr_fits.proofs.lists.are_narrow.Goals as goal

pub loop-formal-preserved : goal.loop-formal-preserved
loop-formal-preserved c =
    next AllNarrow c.args.formals.now c.loop-formal.formal-index c.formal-item.result (omega arith) c.formal-item.is (λ r. (c.if-not-is_narrow.ensures.0 refl, r)) c.loop-formal.invariant

pub returns : goal.returns
returns c = done AllNarrow c.args.formals.now c.loop-formal.formal-index (omega arith) tt c.loop-formal.invariant
