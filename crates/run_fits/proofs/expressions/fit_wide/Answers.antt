use Rattle.std.proofs.Common.{arith}
use Rattle.eval_forms.specs.Callees.{formals_in}
use Rattle.eval_runs.specs.EvalStmts.{AllFitWide}
use Rattle.expr_fits.proofs.Walks as W
use Rattle.run_fits.proofs.expressions.fit_wide.Goals as goal

pub loop-e-preserved : goal.loop-e-preserved
loop-e-preserved c = W.next (λ xs. AllFitWide xs (formals_in c.args.functions.now) c.args.bits) c.args.es.now c.loop-e.e-index c.e-item.result (omega arith) c.e-item.is (λ r. (c.if-not-fits.ensures, r)) c.loop-e.invariant

pub returns : goal.returns
returns c = W.done (λ xs. AllFitWide xs (formals_in c.args.functions.now) c.args.bits) c.args.es.now c.loop-e.e-index (omega arith) tt c.loop-e.invariant
