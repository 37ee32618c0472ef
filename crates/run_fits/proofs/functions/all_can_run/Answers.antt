use Rattle.std.proofs.Common.{arith}
use Rattle.eval_forms.specs.Callees.{formals_in}
use Rattle.eval_runs.specs.Functions.{EachCanRun}
use Rattle.expr_fits.proofs.Walks as W
use Rattle.run_fits.proofs.functions.all_can_run.Goals as goal

pub loop-f-preserved : goal.loop-f-preserved
loop-f-preserved c = W.next (λ xs. EachCanRun xs (formals_in c.args.functions.now)) c.args.functions.now c.loop-f.f-index c.f-item.result (omega arith) c.f-item.is (λ r. (c.if-not-can_run.ensures, r)) c.loop-f.invariant

pub returns : goal.returns
returns c = W.done (λ xs. EachCanRun xs (formals_in c.args.functions.now)) c.args.functions.now c.loop-f.f-index (omega arith) tt c.loop-f.invariant
