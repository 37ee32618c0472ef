use Rattle.std.proofs.Common.{arith}
use Rattle.expr_fits.proofs.Walks as W
use Rattle.process_cases.specs.Fits.{EachBodyFits}
use Rattle.process_cases.proofs.fits.functions_fit.Goals as goal

pub loop-function-preserved : goal.loop-function-preserved
loop-function-preserved c = W.next (λ xs. EachBodyFits xs c.args.functions.now) c.args.callees.now c.loop-function.function-index c.function-item.result (omega arith) c.function-item.is (λ r. (c.if-not-body_fits.ensures, r)) c.loop-function.invariant

pub returns : goal.returns
returns c = W.done (λ xs. EachBodyFits xs c.args.functions.now) c.args.callees.now c.loop-function.function-index (omega arith) tt c.loop-function.invariant
