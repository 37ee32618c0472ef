use Rattle.std.proofs.Common.{arith, rules}
use Rattle.eval_forms.specs.Callees.{formals_in}
use Rattle.eval_runs.specs.EvalStmts.{AllFitWide, ItemsFitWide}
use Rattle.expr_fits.proofs.Walks as W
use Rattle.run_fits.proofs.expressions.items_wide.Goals as goal

pub loop-item-preserved : goal.loop-item-preserved
loop-item-preserved c = W.next (λ xs. ItemsFitWide xs (formals_in c.args.functions.now) c.args.bits) c.args.items.now c.loop-item.item-index c.item-item.result (omega arith) c.item-item.is (λ r. (let f : AllFitWide c.item-item.result.values (formals_in c.args.functions.now) c.args.bits = search rules in f, r)) c.loop-item.invariant

pub returns : goal.returns
returns c = W.done (λ xs. ItemsFitWide xs (formals_in c.args.functions.now) c.args.bits) c.args.items.now c.loop-item.item-index (omega arith) tt c.loop-item.invariant
