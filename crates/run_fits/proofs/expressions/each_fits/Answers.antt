use Rattle.std.proofs.Common.{arith}
use Rattle.eval_forms.specs.Callees.{formals_in}
use Rattle.eval_parts.specs.Limits.{AllFit}
use Rattle.expr_fits.proofs.Walks as W
use Rattle.run_fits.proofs.expressions.each_fits.Goals as goal

pub loop-e-preserved : goal.loop-e-preserved
loop-e-preserved c = W.next (λ xs. AllFit xs (formals_in c.args.functions.now)) c.args.es.now c.loop-e.e-index c.e-item.result (omega arith) c.e-item.is (λ r. (c.if-not-fits_alone.ensures, r)) c.loop-e.invariant

pub returns : goal.returns
returns c = W.done (λ xs. AllFit xs (formals_in c.args.functions.now)) c.args.es.now c.loop-e.e-index (omega arith) tt c.loop-e.invariant
