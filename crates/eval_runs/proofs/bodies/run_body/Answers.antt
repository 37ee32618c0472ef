use Rattle.std.proofs.Common.{map, Err, ap, sym, refl, ◌∙◌, subst}
use Rattle.std.proofs.lemmas.Result.{err_from_is_err_and}
use Rattle.sv_types.specs.Functions.{parameter, parameters, bound, callee_of}
use Rattle.eval_exprs.specs.Calls.{CalledGives}
use Rattle.eval_exprs.specs.Held.{callees_in, formals}
use Rattle.eval_stmts.specs.Environments.{Written}
use Rattle.eval_stmts.specs.Limits.{StmtFits}
use Rattle.eval_runs.specs.Functions.{finals_in}
use Rattle.eval_runs.proofs.Entering as E
use Rattle.eval_runs.proofs.bodies.run_body.Goals as goal

pub run-requires-clause-fits : goal.run-requires-clause-fits
run-requires-clause-fits g c =
    let f = c.args.f.now in
    let vs = c.args.call.now.passed in
    let zero = c.empty-env.result in
    let one = c.bind.new.env in
    let w = subst (λ xs. Written zero one (bound (parameters f) xs)) c.as_slice-2.ensures (subst (λ fs. Written zero one (bound (map parameter fs) c.as_slice-2.result.now)) c.as_slice.ensures c.in_ok-bind.ensures) in
    let b = E.from-empty zero one (parameters f) vs c.empty-env.ensures.signals c.empty-env.ensures.locals c.empty-env.ensures.pending w in
    subst (StmtFits f.body (formals c.args.scope)) (sym (E.no-signals one (parameters f) vs b)) c.requires.fits.body

pub returns-in_err-run : goal.returns-in_err-run
returns-in_err-run g c =
    let p = err_from_is_err_and c.from_residual-in_err-run.result c.from_residual-in_err-run.ensures.1 in
    let sc = c.args.scope in
    let f = c.args.f.now in
    let q = c.args.call.now in
    let zero = c.empty-env.result in
    let one = c.bind.new.env in
    let w = subst (λ xs. Written zero one (bound (parameters f) xs)) c.as_slice-2.ensures (subst (λ fs. Written zero one (bound (map parameter fs) c.as_slice-2.result.now)) c.as_slice.ensures c.in_ok-bind.ensures) in
    let b = E.from-empty zero one (parameters f) q.passed c.empty-env.ensures.signals c.empty-env.ensures.locals c.empty-env.ensures.pending w in
    subst (λ r. CalledGives r (callee_of (callees_in sc) f) q) (sym (p.1 ∙ ap Err p.2)) (E.body-stops sc f q one c.in_err-run.field-0.0 b (w.budget ∙ c.empty-env.ensures.budget) c.in_err-run.ensures)

pub returns : goal.returns
returns g c =
    let sc = c.args.scope in
    let f = c.args.f.now in
    let q = c.args.call.now in
    let zero = c.empty-env.result in
    let one = c.bind.new.env in
    let two = c.run.new.env in
    let w = subst (λ xs. Written zero one (bound (parameters f) xs)) c.as_slice-2.ensures (subst (λ fs. Written zero one (bound (map parameter fs) c.as_slice-2.result.now)) c.as_slice.ensures c.in_ok-bind.ensures) in
    let b = E.from-empty zero one (parameters f) q.passed c.empty-env.ensures.signals c.empty-env.ensures.locals c.empty-env.ensures.pending w in
    E.body-ends sc f q one two c.in_ok-run.field-0 (record { result = c.in_ok-last_of.field-0; finals = c.in_ok-all_last.field-0; left = two.budget }) b (w.budget ∙ c.empty-env.ensures.budget) c.in_ok-run.ensures c.in_ok-last_of.ensures
    (c.in_ok-all_last.ensures ∙ ap (λ fs. finals_in two (map parameter fs)) c.as_slice-3.ensures) refl
