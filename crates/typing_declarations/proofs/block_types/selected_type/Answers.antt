use Rattle.std.proofs.Common.{Ok, Err, ap, sym, ◌∙◌, subst}
use Rattle.std.specs.Prelude.{Result}
use Rattle.std.proofs.lemmas.Result.{err_from_is_err_and}
use Rattle.expr_type.specs.declared.halt.Halt.{Halt}
use Rattle.expr_type.specs.Statements.{selected_type}
use Rattle.expr_type.specs.Types.{TypeFound}
use Rattle.typing_steps.specs.Steps.{TypesTo}
use Rattle.typing_declarations.proofs.Making.{selected-none, selected-whole}
use Rattle.typing_declarations.proofs.block_types.selected_type.Goals as goal

pub returns-in-None-clause-value : goal.returns-in-None-clause-value
returns-in-None-clause-value g c = selected-none (g.S.Names.context c.args.names.now) c.args.of c.args.selects.now c.args.known.now.functions c.in-None.ensures

pub returns-in_err-t-in-Some-clause-value : goal.returns-in_err-t-in-Some-clause-value
returns-in_err-t-in-Some-clause-value g c =
    let k = g.S.Names.context c.args.names.now in
    let fs = c.args.known.now.functions in
    let gs = c.with_selects.new.known.functions in
    let e = err_from_is_err_and c.from_residual.result c.from_residual.ensures.1 in
    subst (λ (r : Result TypeFound Halt). TypesTo r (selected_type k c.args.of c.args.selects.now fs) gs) (sym (e.1 ∙ ap Err e.2))
    (selected-whole k c.args.of c.args.selects.now c.in-Some.t.now (Err c.in_err-t-in-Some.field-0.0) fs gs c.in-Some.ensures c.in_err-t-in-Some.ensures.value)

pub returns-in_ok-t-in-Some-clause-value : goal.returns-in_ok-t-in-Some-clause-value
returns-in_ok-t-in-Some-clause-value g c =
    let k = g.S.Names.context c.args.names.now in
    let fs = c.args.known.now.functions in
    let gs = c.with_selects.new.known.functions in
    subst (λ (f : TypeFound). TypesTo (Ok f) (selected_type k c.args.of c.args.selects.now fs) gs) (sym c.only.ensures)
    (selected-whole k c.args.of c.args.selects.now c.in-Some.t.now (Ok c.in_ok-t-in-Some.t) fs gs c.in-Some.ensures c.in_ok-t-in-Some.ensures.value)
