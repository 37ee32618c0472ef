use Rattle.std.proofs.Common.{Err, sym, ap, ◌∙◌, subst}
use Rattle.std.specs.Prelude.{Result}
use Rattle.std.proofs.lemmas.Result.{err_from_is_err_and}
use Rattle.sv_types.specs.declared.statement.Stmt as R
use Rattle.expr_type.specs.declared.halt.Halt.{Halt}
use Rattle.typing_steps.specs.Steps.{TypesTo}
use Rattle.typing_declarations.specs.Branches.{chosen}
use Rattle.typing_declarations.proofs.Sides.{choice-fine, choice-stops}
use Rattle.typing_declarations.proofs.branches.choice.Goals as goal

pub returns-in_err-test : goal.returns-in_err-test
returns-in_err-test c =
    λ x y z fs gs hs js p q t. let e = err_from_is_err_and c.from_residual.result c.from_residual.ensures.1 in
    subst (λ (r : Result R.Stmt Halt). TypesTo r (chosen x y z fs) js) (sym (e.1 ∙ ap Err e.2))
    (choice-stops x y z fs gs hs js c.args.test c.args.body c.args.other c.beside-branches.result c.in_err-test.field-0.0 c.beside-branches.ensures c.in_err-test.ensures p q t)

pub returns : goal.returns
returns c =
    λ x y z fs gs hs js p q t. choice-fine x y z fs gs hs js c.args.test c.args.body c.args.other c.beside-branches.result c.in_ok-test.test (c.in_ok-test.body, c.in_ok-test.other) c.in_ok-if_of.field-0 c.beside-branches.ensures
    c.in_ok-test.ensures.0 c.in_ok-test.ensures.1 c.in_ok-if_of.ensures p q t
