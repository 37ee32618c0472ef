use Rattle.std.proofs.Common.{Err, List, map, sym, ap, ◌∙◌, subst}
use Rattle.std.specs.Prelude.{Result, slice_get}
use Rattle.std.proofs.lemmas.Result.{err_from_is_err_and}
use Rattle.sv_types.specs.declared.statement.Function.{Function}
use Rattle.sv_types.specs.declared.statement.Stmt.{Stmt}
use Rattle.expr_type.specs.declared.halt.Halt.{Halt}
use Rattle.typing_actions.specs.Calls.{Called, CallsTask, actual_of}
use Rattle.typing_actions.proofs.Tasks.{called-fine, called-stops}
use Rattle.typing_actions.proofs.calls.called.Goals as goal

pub returns-in_err-place : goal.returns-in_err-place
returns-in_err-place g c =
    let k = g.S.Names.context c.args.names.now in
    let fs = c.args.known.now.functions in
    let e = err_from_is_err_and c.from_residual.result c.from_residual.ensures.1 in
    subst (λ (r : Result Stmt Halt). Called k c.args.of.name c.args.place c.args.actuals fs r) (sym (e.1 ∙ ap Err e.2))
    (called-stops k c.args.of.name c.args.place c.args.actuals fs c.in_err-place.field-0.0 c.in_err-place.ensures)

pub returns : goal.returns
returns g c =
    let k = g.S.Names.context c.args.names.now in
    let fs = c.args.known.now.functions in
    let n = c.in_ok-place.place in
    let v = c.in_ok-place.actuals in
    called-fine k c.args.of.name n c.args.place c.args.actuals v fs c.called_stmt.result c.in_ok-place.ensures.0 c.in_ok-place.ensures.1
    (subst (λ (gs : List Function). CallsTask k c.args.of.name n (slice_get gs n) (map (actual_of k.source) v.items) c.called_stmt.result) c.as_slice.ensures (c.called_stmt.ensures k c.text.ensures))
