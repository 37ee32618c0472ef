use Rattle.std.proofs.Common.{Err, map, sym, ap, ◌∙◌, subst}
use Rattle.std.specs.Prelude.{Result}
use Rattle.std.proofs.lemmas.Result.{err_from_is_err_and}
use Rattle.sv_types.specs.declared.statement.Stmt.{Stmt}
use Rattle.expr_type.specs.declared.halt.Halt.{Halt}
use Rattle.expr_type.specs.Answers.{Gives}
use Rattle.expr_type.specs.Statements as statement
use Rattle.stmt_types.specs.Cases.{found_by, item_found, widest_found}
use Rattle.stmt_types.proofs.Wides.{case-fine, case-stops}
use Rattle.stmt_types.proofs.cases.case_stmt.Goals as goal

pub returns-in_err-on : goal.returns-in_err-on
returns-in_err-on c =
    λ k. let e = err_from_is_err_and c.from_residual.result c.from_residual.ensures.1 in
    subst (λ (r : Result Stmt Halt). Gives r (statement.case_stmt k c.args.kind (found_by k.source c.args.on) (map (item_found k.source) c.args.items.items))) (sym (e.1 ∙ ap Err e.2))
    (case-stops k c.args.kind c.args.on c.selector_at-on.result c.args.items.items c.is_wide-wide.result c.whole_items.result c.in_err-on.field-0.0
    (c.is_wide-wide.ensures ∙ ap (widest_found c.args.on) c.as_slice.ensures.value) c.selector_at-on.ensures c.whole_items.ensures c.in_err-on.ensures)

pub returns : goal.returns
returns c =
    λ k. case-fine k c.args.kind c.args.on c.selector_at-on.result c.args.items.items c.is_wide-wide.result c.whole_items.result (c.in_ok-on.on, c.in_ok-on.items) c.in_ok-case_of.field-0
    (c.is_wide-wide.ensures ∙ ap (widest_found c.args.on) c.as_slice.ensures.value) c.selector_at-on.ensures c.whole_items.ensures c.in_ok-on.ensures c.in_ok-case_of.ensures
