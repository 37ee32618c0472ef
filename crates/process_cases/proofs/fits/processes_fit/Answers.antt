use Rattle.std.proofs.Common.{arith}
use Rattle.expr_fits.proofs.Walks as W
use Rattle.process_cases.specs.Fits.{EachFits}
use Rattle.process_cases.proofs.fits.processes_fit.Goals as goal

pub loop-process-preserved : goal.loop-process-preserved
loop-process-preserved c = W.next (λ xs. EachFits xs c.args.functions.now) c.args.processes.now c.loop-process.process-index c.process-item.result (omega arith) c.process-item.is (λ r. (c.if-not-body_fits.ensures, r)) c.loop-process.invariant

pub returns : goal.returns
returns c = W.done (λ xs. EachFits xs c.args.functions.now) c.args.processes.now c.loop-process.process-index (omega arith) tt c.loop-process.invariant
