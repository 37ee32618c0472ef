use Rattle.std.proofs.Common.{Err, arith, ap, sym, ◌∙◌, subst}
use Rattle.std.proofs.lemmas.Result.{err_from_is_err_and}
use Rattle.sv_types.specs.Layouts.{layout}
use Rattle.sv_types.specs.Operators.{assigned_width}
use Rattle.sv_types.specs.Expressions.{meaning}
use Rattle.eval_forms.specs.Callees.{formals_in}
use Rattle.eval_stmts.proofs.Given.{fits-alone}
use Rattle.part_flows.specs.Values.{NextGives}
use Rattle.part_flows.proofs.Failing as X
use Rattle.part_flows.proofs.controls.next_value.Goals as goal

pub is_constant-requires-clause-fits : goal.is_constant-requires-clause-fits
is_constant-requires-clause-fits c =
    let e = c.args.e.now in
    let w = assigned_width (layout c.args.of.now).two_state (meaning e) in
    fits-alone e (formals_in c.args.known.functions.now) w (omega arith) c.requires.fits

pub returns-in_err-is_constant : goal.returns-in_err-is_constant
returns-in_err-is_constant c =
    let p = err_from_is_err_and c.from_residual.result c.from_residual.ensures.1 in
    subst (λ r. NextGives r c.args.known c.args.of.now c.args.e.now) (sym (p.1 ∙ ap Err p.2)) (X.reads-fail c.in_err-is_constant.field-0.0 c.args.known c.args.e.now c.in_err-is_constant.ensures)

pub returns-in_err-value : goal.returns-in_err-value
returns-in_err-value c =
    let p = err_from_is_err_and c.from_residual-in_err-value.result c.from_residual-in_err-value.ensures.1 in
    subst (λ r. NextGives r c.args.known c.args.of.now c.args.e.now) (sym (p.1 ∙ ap Err p.2)) (X.value-fails c.in_err-value.field-0.0 c.args.known c.args.e.now (sym c.in_ok-is_constant.ensures ∙ c.if-not-branch.false) c.in_err-value.ensures)
