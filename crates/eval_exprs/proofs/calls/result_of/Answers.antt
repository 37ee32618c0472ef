use Rattle.std.proofs.Common.{map, Ok, Err, ap, ◌∙◌, refl}
use Rattle.sv_types.specs.Expressions.{meaning}
use Rattle.eval_parts.specs.Answers.{assigned}
use Rattle.eval_parts.specs.Targets.{marks_of_formals}
use Rattle.eval_exprs.specs.declared.calls.Call.{Call}
use Rattle.std.proofs.lemmas.Result.{err_from_is_err_and}
use Rattle.eval_exprs.specs.Held.{around, callees_in}
use Rattle.eval_exprs.proofs.Passing as K
use Rattle.eval_exprs.proofs.calls.result_of.Goals as goal

pub assigned_bits-requires-clause-fit : goal.assigned_bits-requires-clause-fit
assigned_bits-requires-clause-fit g c =
    K.places-fit c.args.e.now c.args.function c.args.held.scope c.formals_of.result.now c.actuals_of.result.now c.args.values.now c.requires.call c.formals_of.ensures.value c.actuals_of.ensures c.requires.operands

pub returns-in_err-result : goal.returns-in_err-result
returns-in_err-result g c = λ es at values.
    let p = err_from_is_err_and c.from_residual-in_err-result.result c.from_residual-in_err-result.ensures.1 in
    let q : Call = record { function = c.args.function; passed = c.from_vec.result; left = c.args.budget.now } in
    let sc = c.args.held.scope in
    K.halted c.from_residual-in_err-result.result c.in_err-result.field-0.0 (callees_in sc c.args.function) q (assigned (marks_of_formals (callees_in sc c.args.function).formals) (map meaning es) (around c.args.held)) c.args.budget.now c.args.budget.now (p.1 ∙ ap Err p.2)
    (c.requires.calls.gives q (Err c.in_err-result.field-0.0) c.in_err-result.ensures)
    (c.from_vec.ensures ∙ K.passed-are c.args.function sc c.formals_of.result.now c.actuals_of.result.now es c.args.values.now c.in_ok-passed.passed.items (around c.args.held) c.formals_of.ensures.value (c.actuals_of.ensures c.args.function es at) c.in_ok-passed.ensures values)
    refl

pub returns : goal.returns
returns g c = λ es at values.
    let q : Call = record { function = c.args.function; passed = c.from_vec.result; left = c.args.budget.now } in
    let sc = c.args.held.scope in
    K.ended c.in_ok-result.field-0 (callees_in sc c.args.function) q c.in_ok-result.field-0.result (assigned (marks_of_formals (callees_in sc c.args.function).formals) (map meaning es) (around c.args.held)) c.args.budget.now c.in_ok-result.field-0.left
    (c.requires.calls.gives q (Ok c.in_ok-result.field-0) c.in_ok-result.ensures)
    (c.from_vec.ensures ∙ K.passed-are c.args.function sc c.formals_of.result.now c.actuals_of.result.now es c.args.values.now c.in_ok-passed.passed.items (around c.args.held) c.formals_of.ensures.value (c.actuals_of.ensures c.args.function es at) c.in_ok-passed.ensures values)
    refl refl refl
