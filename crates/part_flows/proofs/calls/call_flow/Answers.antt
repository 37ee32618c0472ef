use Rattle.std.proofs.Common.{[], map, refl, sym, subst}
use Rattle.sv_types.specs.Functions.{parameter}
use Rattle.sv_types.specs.Expressions.{meaning}
use Rattle.eval_forms.specs.Callees.{formals_in}
use Rattle.eval_stmts.specs.Targets.{ActualsFit}
use Rattle.eval_runs.proofs.Knots.{all-fit}
use Rattle.part_flows.proofs.Parts as A
use Rattle.part_flows.proofs.Passing as P
use Rattle.part_flows.proofs.calls.call_flow.Goals as goal

pub formals_of-formals-requires : goal.formals_of-formals-requires
formals_of-formals-requires c = all-fit c.args.known.functions.now (formals_in c.args.known.functions.now) c.requires.functions

pub outputs-requires-clause-fits : goal.outputs-requires-clause-fits
outputs-requires-clause-fits c =
    let fs = formals_in c.args.known.functions.now in subst (λ ps. ActualsFit ps c.args.actuals.now fs) (sym c.formals_of-formals.ensures.value) c.requires.fits

pub inputs-requires-clause-fits : goal.inputs-requires-clause-fits
inputs-requires-clause-fits c =
    let fs = formals_in c.args.known.functions.now in subst (λ ps. ActualsFit ps c.args.actuals.now fs) (sym c.formals_of-formals.ensures.value) c.requires.fits

pub returns : goal.returns
returns c = (
  c.in_ok-and_then.ensures.known,
  P.call-is c.args.known c.args.function (map parameter c.formals_of-formals.result.now) (map meaning c.args.actuals.now) c.in_ok-and_then.field-0 c.formals_of-formals.ensures.value
      (c.in_ok-and_then.ensures.flow _ _ (c.in_ok-first.ensures.flow _ (A.gathered [] c.in_ok-reads.reads _ refl c.in_ok-reads.ensures)) c.in_ok-outs.ensures.1),
)
