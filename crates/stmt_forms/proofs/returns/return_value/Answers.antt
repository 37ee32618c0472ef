use Rattle.std.proofs.Common.{[], ◌∷◌, Err, Option, Some, sym, ap, ◌∙◌, subst}
use Rattle.std.specs.Prelude.{Result}
use Rattle.std.specs.Option.{option_copied}
use Rattle.std.proofs.lemmas.Result.{err_from_is_err_and}
use Rattle.sv_types.specs.declared.statement.Stmt.{Stmt}
use Rattle.sv_types.specs.declared.statement.Stmt.TheVariants as S
use Rattle.sv_types.specs.declared.types.SvType.{SvType}
use Rattle.expr_type.specs.declared.halt.Halt.{Halt}
use Rattle.expr_type.specs.Answers.{Gives, source}
use Rattle.expr_type.specs.Statements as statement
use Rattle.pattern_types.specs.Meaning.{operand_of}
use Rattle.stmt_forms.proofs.Returning.{return-fine, return-stops}
use Rattle.stmt_forms.proofs.returns.return_value.Goals as goal

pub returns-in_err-value-in-Some : goal.returns-in_err-value-in-Some
returns-in_err-value-in-Some c =
    λ k s. let e = err_from_is_err_and c.from_residual.result c.from_residual.ensures.1 in
    subst (λ (t : Option SvType). Gives c.from_residual.result (statement.return_value k c.args.at t (operand_of k.source c.args.o))) (sym (ap option_copied c.in-Some.is))
    (subst (λ (r : Result Stmt Halt). Gives r (statement.return_value k c.args.at (option_copied (Some c.in-Some.of)) (operand_of k.source c.args.o))) (sym (e.1 ∙ ap Err e.2))
    (return-stops k (source c.args.text) c.args.at c.in-Some.of.now c.args.o c.in_err-value-in-Some.field-0.0 s c.in_err-value-in-Some.ensures))

pub returns-in_ok-then_return-in-Some : goal.returns-in_ok-then_return-in-Some
returns-in_ok-then_return-in-Some c =
    λ k s. ap (λ (t : Option SvType). statement.return_value k c.args.at t (operand_of k.source c.args.o)) (ap option_copied c.in-Some.is)
    ∙ return-fine k (source c.args.text) c.args.at c.in-Some.of.now c.args.o c.in_ok-value-in-Some.value c.in_ok-then_return-in-Some.field-0 s c.in_ok-value-in-Some.ensures
    (c.in_ok-then_return-in-Some.ensures ∙ ap (λ (m : Stmt). S.Block [] (m ∷ S.Return ∷ [])) c.in_ok-made-in-Some.ensures)
