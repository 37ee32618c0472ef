use Rattle.std.proofs.Common.{Err, ap, sym, ◌∙◌, subst}
use Rattle.std.proofs.lemmas.Result.{err_from_is_err_and}
use Rattle.part_flows.specs.Values.{TestGives}
use Rattle.part_flows.proofs.Failing as X
use Rattle.part_flows.proofs.controls.tested.Goals as goal

pub returns-in_err-is_constant : goal.returns-in_err-is_constant
returns-in_err-is_constant c =
    let p = err_from_is_err_and c.from_residual.result c.from_residual.ensures.1 in
    subst (λ r. TestGives r c.args.known c.args.test.now) (sym (p.1 ∙ ap Err p.2)) (X.reads-fail c.in_err-is_constant.field-0.0 c.args.known c.args.test.now c.in_err-is_constant.ensures)

pub returns-in_err-goes_on : goal.returns-in_err-goes_on
returns-in_err-goes_on c =
    let p = err_from_is_err_and c.from_residual-in_err-goes_on.result c.from_residual-in_err-goes_on.ensures.1 in
    subst (λ r. TestGives r c.args.known c.args.test.now) (sym (p.1 ∙ ap Err p.2)) (X.value-fails c.in_err-goes_on.field-0.0 c.args.known c.args.test.now (sym c.in_ok-is_constant.ensures ∙ c.if-not-branch.false) c.in_err-goes_on.ensures)
