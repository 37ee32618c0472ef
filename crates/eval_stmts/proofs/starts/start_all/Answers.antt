use Rattle.std.proofs.Common.{◌+◌, ◌++◌, ◌∷◌, drop, Err, arith, ap, sym, ◌∙◌, subst}
use Rattle.std.proofs.lemmas.Result.{err_from_is_err_and}
use Rattle.std.proofs.Math.ListN.{drop_of_length-le}
use Rattle.sv_types.specs.Statements.{starts}
use Rattle.eval_exprs.specs.Held.{formals}
use Rattle.eval_exprs.proofs.Turns.{at-front}
use Rattle.eval_stmts.specs.Limits.{AllLocalsFit}
use Rattle.eval_stmts.specs.Stepping.{Resumes, Leaves, in_turn, start_step}
use Rattle.eval_stmts.proofs.Chains as C
use Rattle.eval_stmts.proofs.starts.start_all.Goals as goal

pub start-requires-clause-fits : goal.start-requires-clause-fits
start-requires-clause-fits g c =
    let here = at-front c.args.locals.now c.loop-local.local-index c.local-item.result (omega arith) c.local-item.is in
    (subst (λ ls. AllLocalsFit ls (formals c.args.scope)) here c.loop-local.invariant.fits).0

pub returns-in_err-start : goal.returns-in_err-start
returns-in_err-start g c = λ rest.
    let p = err_from_is_err_and c.from_residual.result c.from_residual.ensures.1 in
    let sc = c.args.scope in
    let all = in_turn (starts c.args.locals.now ++ rest) in
    let cur = c.loop-local.env in
    let ls = drop (c.loop-local.local-index + 1) c.args.locals.now in
    let here = at-front c.args.locals.now c.loop-local.local-index c.local-item.result (omega arith) c.local-item.is in
    let h = c.in_err-start.field-0.0 in
    subst (λ r. Leaves r sc (in_turn rest) all c.args.env.now c.start.new.env) (sym (p.1 ∙ ap Err p.2))
    (C.resumed (Err h) sc (in_turn (start_step c.local-item.result ∷ (starts ls ++ rest))) all c.args.env.now cur c.start.new.env
    (subst (λ xs. Resumes sc (in_turn (starts xs ++ rest)) all c.args.env.now cur) here (c.loop-local.invariant.left rest))
    (C.first-stops sc (start_step c.local-item.result) (starts ls ++ rest) cur h c.in_err-start.ensures))

pub loop-local-preserved : goal.loop-local-preserved
loop-local-preserved g c =
    let sc = c.args.scope in
    let cur = c.loop-local.env in
    let ls = drop (c.loop-local.local-index + 1) c.args.locals.now in
    let here = at-front c.args.locals.now c.loop-local.local-index c.local-item.result (omega arith) c.local-item.is in
    record {
      fits = (subst (λ xs. AllLocalsFit xs (formals sc)) here c.loop-local.invariant.fits).1;
      left = λ rest.
          let all = in_turn (starts c.args.locals.now ++ rest) in
          C.onto sc (in_turn (starts ls ++ rest)) (in_turn (start_step c.local-item.result ∷ (starts ls ++ rest))) all c.args.env.now cur c.start.new.env
          (subst (λ xs. Resumes sc (in_turn (starts xs ++ rest)) all c.args.env.now cur) here (c.loop-local.invariant.left rest))
          (C.next sc (start_step c.local-item.result) (starts ls ++ rest) cur c.start.new.env c.in_ok-start.ensures);
    }

pub returns : goal.returns
returns g c = λ rest.
    subst (λ xs. Resumes c.args.scope (in_turn (starts xs ++ rest)) (in_turn (starts c.args.locals.now ++ rest)) c.args.env.now c.loop-local.env)
    (drop_of_length-le c.args.locals.now (omega arith)) (c.loop-local.invariant.left rest)
