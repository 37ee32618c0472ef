use Rattle.std.proofs.Common.{arith}
use Rattle.eval_forms.specs.Callees.{formals_in}
use Rattle.eval_runs.specs.EvalStmts.{AllLocalsFit}
use Rattle.expr_fits.proofs.Walks as W
use Rattle.run_fits.proofs.expressions.locals_fit.Goals as goal

pub loop-l-preserved : goal.loop-l-preserved
loop-l-preserved c = W.next (λ xs. AllLocalsFit xs (formals_in c.args.functions.now)) c.args.ls.now c.loop-l.l-index c.l-item.result (omega arith) c.l-item.is (λ r. (c.if-not-local_fits.ensures, r)) c.loop-l.invariant

pub returns : goal.returns
returns c = W.done (λ xs. AllLocalsFit xs (formals_in c.args.functions.now)) c.args.ls.now c.loop-l.l-index (omega arith) tt c.loop-l.invariant
