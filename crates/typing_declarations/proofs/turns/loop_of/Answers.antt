use Rattle.std.proofs.Common.{Err, sym, ap, ◌∙◌, subst}
use Rattle.std.specs.Prelude.{Result}
use Rattle.std.proofs.lemmas.Result.{err_from_is_err_and}
use Rattle.sv_types.specs.declared.statement.Stmt as R
use Rattle.expr_type.specs.declared.halt.Halt.{Halt}
use Rattle.expr_type.specs.Answers.{source}
use Rattle.typing_steps.specs.Steps.{TypesTo}
use Rattle.typing_declarations.specs.Loops.{looped}
use Rattle.typing_declarations.proofs.Looping.{loop-fine, loop-stops}
use Rattle.typing_declarations.proofs.turns.loop_of.Goals as goal

pub returns-in_err-variable : goal.returns-in_err-variable
returns-in_err-variable c =
    λ k x y z fs gs hs js s t u w. let e = err_from_is_err_and c.from_residual.result c.from_residual.ensures.1 in
    subst (λ (q : Result R.Stmt Halt). TypesTo q (looped k c.args.at x y z fs) js) (sym (e.1 ∙ ap Err e.2))
    (loop-stops k c.args.at x y z c.args.variable c.args.control c.args.body c.beside-turns.result fs gs hs js c.in_err-variable.field-0.0 c.beside-turns.ensures c.in_err-variable.ensures t u w)

pub returns : goal.returns
returns c =
    λ k x y z fs gs hs js s t u w. loop-fine k (source c.args.text) c.args.at x y z c.args.variable c.args.control c.args.body c.beside-turns.result fs gs hs js c.in_ok-variable.variable (c.in_ok-variable.control, c.in_ok-variable.body)
    c.in_ok-loop_stmt.field-0 s c.beside-turns.ensures c.in_ok-variable.ensures.0 c.in_ok-variable.ensures.1 c.in_ok-loop_stmt.ensures t u w
