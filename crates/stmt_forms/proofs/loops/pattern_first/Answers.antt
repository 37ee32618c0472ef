use Rattle.std.proofs.Common.{Err, sym, ap, ◌∙◌, subst}
use Rattle.std.specs.Prelude.{Result}
use Rattle.std.proofs.lemmas.Result.{err_from_is_err_and}
use Rattle.sv_types.specs.declared.expression.Expr.{Expr}
use Rattle.expr_type.specs.declared.halt.Halt.{Halt}
use Rattle.expr_type.specs.Answers.{Gives, source}
use Rattle.expr_type.specs.Operands.{passed}
use Rattle.pattern_types.specs.Meaning.{operand_of}
use Rattle.stmt_forms.specs.Loops.{pattern_cast}
use Rattle.stmt_forms.proofs.Looping.{pattern-fine, pattern-stops}
use Rattle.stmt_forms.proofs.loops.pattern_first.Goals as goal

pub returns-in_err-value : goal.returns-in_err-value
returns-in_err-value c =
    λ k s. let t = c.args.t.now in
    let e = err_from_is_err_and c.from_residual.result c.from_residual.ensures.1 in
    subst (λ (r : Result Expr Halt). Gives r (pattern_cast k.source t c.args.tick (passed k.source t (operand_of k.source c.args.o)))) (sym (e.1 ∙ ap Err e.2))
    (pattern-stops k (source c.args.text) t c.args.tick (λ x. passed x t (operand_of x c.args.o)) c.in_err-value.field-0.0 s c.in_err-value.ensures)

pub returns : goal.returns
returns c =
    λ k s. pattern-fine k (source c.args.text) c.args.t.now c.args.tick (λ x. passed x c.args.t.now (operand_of x c.args.o)) c.in_ok-value.value c.in_ok-cast.field-0 s c.in_ok-value.ensures c.in_ok-cast.ensures
