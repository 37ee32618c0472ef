use Rattle.std.proofs.Common.{◌≡◌, ◌==◌, true, Ok, Err, List, length, map, arith, eq-eqb, sym, ap, ◌∙◌, subst}
use Rattle.std.specs.Prelude.{Result}
use Rattle.std.specs.List.{zip}
use Rattle.std.proofs.lemmas.Result.{err_from_is_err_and}
use Rattle.sv_types.specs.declared.expression.Expr.{Expr}
use Rattle.sv_types.specs.declared.statement.Formal.{Formal}
use Rattle.sv_types.specs.declared.statement.Stmt.{Stmt}
use Rattle.expr_type.specs.declared.halt.Halt.{Halt}
use Rattle.expr_type.specs.Answers.{Gives, source}
use Rattle.expr_type.specs.Statements as D
use Rattle.expr_type.specs.Typings.{all_of}
use Rattle.typing_actions.specs.Calls.{actual_of, pair_expr}
use Rattle.typing_actions.proofs.Calling.{call-fine, call-stops}
use Rattle.typing_actions.proofs.passing.call_of.Goals as goal

pub returns-in_err-passed : goal.returns-in_err-passed
returns-in_err-passed c =
    λ k s. let e = err_from_is_err_and c.from_residual.result c.from_residual.ensures.1 in
    let f = c.args.function.now in
    let as' = c.args.actuals.items in
    let h = c.in_err-passed.field-0.0 in
    let count : length f.formals ≡ length as' = omega arith in
    let same : (length f.formals == length as') ≡ true = eq-eqb (length f.formals) (length as') count in
    subst (λ (r : Result Stmt Halt). Gives r (D.call_stmt_of k c.args.at (record { place = c.args.place; of = f }) (map (actual_of k.source) as'))) (sym (e.1 ∙ ap Err e.2))
    (call-stops k c.args.at c.args.place f as' h same
    (subst (λ (fs : List Formal). Gives {A = List Expr} (Err h) (all_of (map (pair_expr k) (zip fs (map (actual_of k.source) as'))))) c.as_slice.ensures (c.in_err-passed.ensures k s)))

pub returns : goal.returns
returns c =
    λ k s. let f = c.args.function.now in
    let as' = c.args.actuals.items in
    let count : length f.formals ≡ length as' = omega arith in
    let same : (length f.formals == length as') ≡ true = eq-eqb (length f.formals) (length as') count in
    call-fine k (source c.args.text) c.args.at c.args.place f as' c.in_ok-passed.passed c.in_ok-call.field-0 s same
    (subst (λ (fs : List Formal). Gives (Ok c.in_ok-passed.passed) (all_of (map (pair_expr k) (zip fs (map (actual_of k.source) as'))))) c.as_slice.ensures (c.in_ok-passed.ensures k s)) c.in_ok-call.ensures
