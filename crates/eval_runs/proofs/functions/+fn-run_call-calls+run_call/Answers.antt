use Rattle.std.proofs.Common.{◌-◌, get_or, Ok, arith, ap, sym, subst}
use Rattle.sv_types.specs.Functions.{absent, callees_within, callee_of, not_run}
use Rattle.eval_parts.specs.Surroundings.{running}
use Rattle.eval_exprs.specs.EvalForms.{formals_in}
use Rattle.eval_exprs.specs.Calls.{Ends, CalledGives}
use Rattle.eval_runs.specs.Functions.{CanRun}
use Rattle.eval_runs.proofs.Knots as K
use Rattle.eval_runs.proofs.functions.+fn-run_call-calls+run_call.Goals as goal

pub calls-run_call-requires : goal.calls-run_call-requires
calls-run_call-requires t c = (omega (arith, c.decreases), c.requires)

pub returns-then-call-functions : goal.returns-then-call-functions
returns-then-call-functions t c =
    let q = c.args.call in
    K.called-as (Ok c.nothing.result) absent (callees_within c.args.depth c.args.functions.now q.function) q (K.nothing-there c.args.depth c.args.functions.now q.function (omega arith))
    (record { result = c.nothing.ensures.result; finals = c.nothing.ensures.finals; runs = ap running (sym c.nothing.ensures.left) })

pub not_run-requires : goal.not_run-requires
not_run-requires t c =
    let fs = c.args.functions.now in
    let n = c.args.call.function in
    let f = c.index-functions-call.result in
    (subst (λ x. CanRun x (formals_in fs)) (sym c.index-functions-call.is) (K.can-run fs n f (formals_in fs) (omega arith) c.requires)).types

pub returns-then-depth-eq0 : goal.returns-then-depth-eq0
returns-then-depth-eq0 t c =
    let fs = c.args.functions.now in
    let q = c.args.call in
    let f = c.index-functions-call.result in
    K.called-as (Ok c.in_ok-not_run.field-0) (not_run (get_or fs q.function f)) (callees_within c.args.depth fs q.function) q (K.not-run-there fs q.function c.args.depth f c.if-depth-eq0.true (omega arith))
    (subst (λ x. Ends c.in_ok-not_run.field-0 (not_run x) q) c.index-functions-call.is c.in_ok-not_run.ensures)

pub run_body-requires-clause-calls : goal.run_body-requires-clause-calls
run_body-requires-clause-calls t c = record { always = record { at = λ a. (omega (arith, c.decreases), c.requires) }; functions = K.all-fit c.args.functions.now (formals_in c.args.functions.now) c.requires; gives = λ q r p. p.1 }

pub run_body-requires-clause-fits : goal.run_body-requires-clause-fits
run_body-requires-clause-fits t c =
    let fs = c.args.functions.now in
    let n = c.args.call.function in
    let f = c.index-functions-call.result in
    subst (λ x. CanRun x (formals_in fs)) (sym c.index-functions-call.is) (K.can-run fs n f (formals_in fs) (omega arith) c.requires)

pub returns : goal.returns
returns t c =
    let fs = c.args.functions.now in
    let q = c.args.call in
    let f = c.index-functions-call.result in
    let below = c.args.depth - 1 in
    K.called-as c.run_body.result (callee_of (callees_within below fs) (get_or fs q.function f)) (callees_within c.args.depth fs q.function) q (K.run-there fs q.function c.args.depth below f (omega arith) (omega arith))
    (subst (λ x. CalledGives c.run_body.result (callee_of (callees_within below fs) x) q) c.index-functions-call.is c.run_body.ensures)
