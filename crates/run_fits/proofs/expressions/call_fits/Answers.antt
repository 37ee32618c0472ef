use Rattle.std.proofs.Common.{arith}
use Rattle.eval_parts.specs.Steps.{is_held}
use Rattle.eval_forms.specs.Callees.{formals_in}
use Rattle.run_fits.proofs.Parts as P
use Rattle.run_fits.proofs.expressions.call_fits.Goals as goal

pub loop-i-preserved : goal.loop-i-preserved
loop-i-preserved c =
    P.passed-next c.args.formals.now c.args.actuals.now c.loop-i.i c.index-formals-i.result c.index-actuals-i.result (formals_in c.args.functions.now) (is_held c.args.held.now) (omega arith) (omega arith) c.index-formals-i.is c.index-actuals-i.is (c.if-not-actual_fits.ensures)
    c.loop-i.invariant

pub returns : goal.returns
returns c = P.passed-done c.args.formals.now c.args.actuals.now c.loop-i.i (formals_in c.args.functions.now) (is_held c.args.held.now) (omega arith) c.loop-i.invariant
