use Rattle.std.proofs.Common.{Ok, Err, ap, sym, ◌∙◌, subst}
use Rattle.std.specs.Prelude.{Result}
use Rattle.std.proofs.lemmas.Result.{err_from_is_err_and}
use Rattle.sv_types.specs.declared.types.SvType.{SvType}
use Rattle.expr_type.specs.declared.halt.Halt.{Halt}
use Rattle.expr_type.specs.Answers.{Gives}
use Rattle.expr_type.specs.Types.{TypeFound}
use Rattle.typing_scopes.specs.Ahead.{mapped}
use Rattle.typing_declarations.specs.declared.results.ResultFound.{ResultFound}
use Rattle.typing_declarations.specs.Giving.{result_of, result_rule}
use Rattle.typing_declarations.proofs.FormalUnder.{narrow-result, result_by}
use Rattle.typing_declarations.proofs.results.narrow_result.Goals as goal

pub returns-in_err-of : goal.returns-in_err-of
returns-in_err-of c k =
    let f = c.args.typed.0 in
    let t = c.args.typed.1 in
    let e = err_from_is_err_and c.from_residual.result c.from_residual.ensures.1 in
    subst (λ (r : Result ResultFound Halt). Gives (mapped result_of r) (result_rule k c.args.at f t)) (sym (e.1 ∙ ap Err e.2)) (narrow-result k f c.args.at t (Err c.in_err-of.field-0.0) (c.in_err-of.ensures.value k))

pub returns : goal.returns
returns c k =
    let t = c.args.typed.1 in
    let u : Result SvType Halt = Ok c.in_ok-of.of in
    subst (λ (f : TypeFound). Gives (mapped (result_by f.names) u) (result_rule k c.args.at c.args.typed.0 t)) (sym c.found.view_is) (narrow-result k c.args.typed.0 c.args.at t u (c.in_ok-of.ensures.value k))
