use Rattle.std.proofs.Common.{Err, sym, ap, ◌∙◌, subst}
use Rattle.std.specs.Prelude.{Result}
use Rattle.std.proofs.lemmas.Result.{err_from_is_err_and}
use Rattle.sv_types.specs.declared.statement.Stmt as R
use Rattle.expr_type.specs.declared.halt.Halt.{Halt}
use Rattle.typing_steps.specs.Steps.{TypesTo}
use Rattle.typing_stmt_parts.specs.Items.{cases_of}
use Rattle.typing_stmt_parts.proofs.Choosing.{case-found, case-halts}
use Rattle.typing_stmt_parts.proofs.items.case_of.Goals as goal

pub returns-in_err-on : goal.returns-in_err-on
returns-in_err-on c =
    λ k e cs fs gs hs p q. let u = err_from_is_err_and c.from_residual.result c.from_residual.ensures.1 in
    subst (λ (r : Result R.Stmt Halt). TypesTo r (cases_of k c.args.keyword e cs fs) hs) (sym (u.1 ∙ ap Err u.2))
    (case-halts k c.args.keyword e cs fs gs hs c.args.sought c.going_on-going.result c.args.found c.in_err-on.field-0.0 c.going_on-going.ensures c.in_err-on.ensures p q)

pub returns : goal.returns
returns c =
    λ k e cs fs gs hs p q. case-found k c.args.keyword e cs fs gs hs c.args.sought c.in_ok-on.on c.going_on-going.result c.in_ok-on.items c.args.found c.case_kind-kind.result c.case_stmt.result c.going_on-going.ensures
    c.in_ok-on.ensures.0 c.in_ok-on.ensures.1 c.case_kind-kind.ensures (c.case_stmt.ensures k) p q
