use Rattle.std.proofs.Common.{map, Ok, Err, ap, ◌∙◌, refl, sym, subst}
use Rattle.std.proofs.lemmas.Result.{err_from_is_err_and}
use Rattle.sv_types.specs.Functions.{parameter}
use Rattle.eval_exprs.specs.declared.calls.Call.{Call}
use Rattle.eval_stmts.specs.Stepping.{GoesOn}
use Rattle.eval_stmts.specs.Targets.{routine_step}
use Rattle.eval_stmts.specs.Routines.{copies_step}
use Rattle.sv_types.specs.Expressions.{meaning}
use Rattle.eval_runs.proofs.Calling as K
use Rattle.eval_runs.proofs.routines.call_routine.Goals as goal

pub returns-in_err-passed : goal.returns-in_err-passed
returns-in_err-passed g c =
    let p = err_from_is_err_and c.from_residual.result c.from_residual.ensures.1 in
    let sc = c.args.scope in
    subst (λ r. GoesOn r sc (routine_step c.args.function c.args.actuals.now) c.args.env.now c.take_all_in.new.env) (sym (p.1 ∙ ap Err p.2))
    (K.stops-before sc c.args.function c.args.actuals.now (map parameter c.formals_of-formals.result.now) c.args.env.now c.in_err-passed.field-0.0 c.formals_of-formals.ensures.value c.in_err-passed.ensures.gives)

pub returns-in_err-finals : goal.returns-in_err-finals
returns-in_err-finals g c =
    let p = err_from_is_err_and c.from_residual-in_err-finals.result c.from_residual-in_err-finals.ensures.1 in
    let sc = c.args.scope in
    let mid = c.take_all_in.new.env in
    let h = c.in_err-finals.field-0.0 in
    let q : Call = record { function = c.args.function; passed = c.from_vec.result; left = mid.budget } in
    let gives = c.in_ok-passed.ensures in
    subst (λ r. GoesOn r sc (routine_step c.args.function c.args.actuals.now) c.args.env.now mid) (sym (p.1 ∙ ap Err p.2))
    (K.stops-in sc c.args.function c.args.actuals.now (map parameter c.formals_of-formals.result.now) c.in_ok-passed.passed.items c.args.env.now mid q h
    (record { formals = c.formals_of-formals.ensures.value; same = gives.same; inputs = gives.gives.0; runs = gives.gives.1 }) c.from_vec.ensures refl (c.requires.calls.gives q (Err h) c.in_err-finals.ensures))

pub returns : goal.returns
returns g c =
    let sc = c.args.scope in
    let mid = c.take_all_in.new.env in
    let called = c.in_ok-finals.field-0 in
    let es = c.args.actuals.now in
    let ps = map parameter c.formals_of-formals.result.now in
    let q : Call = record { function = c.args.function; passed = c.from_vec.result; left = mid.budget } in
    let gives = c.in_ok-passed.ensures in
    let env = record mid { budget = called.left } in
    K.goes-resumed c.copy_all_out.result sc (copies_step ps (map meaning es) c.as_slice.result.now) (routine_step c.args.function es) c.args.env.now env c.copy_all_out.new.env
    (K.outputs-left sc c.args.function es ps c.in_ok-passed.passed.items c.as_slice.result.now c.args.env.now mid q called
    (record { formals = c.formals_of-formals.ensures.value; same = gives.same; inputs = gives.gives.0; runs = gives.gives.1 }) c.from_vec.ensures refl (c.requires.calls.gives q (Ok called) c.in_ok-finals.ensures) c.as_slice.ensures)
    c.copy_all_out.ensures
