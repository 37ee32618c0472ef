use Rattle.std.proofs.Common.{◌≡◌, ◌+◌, suc, ◌-◌, ◌∷◌, [], map, drop, get_or, Some, Ok, Err, arith, ap, sym, ◌∙◌, subst}
use Rattle.std.proofs.lemmas.Result.{err_from_is_err_and}
use Rattle.std.proofs.lemmas.Option.{slice_get-get_or}
use Rattle.std.proofs.Math.ListN.{drop_of_length-le}
use Rattle.sv_types.specs.declared.statement.Stmt.TheVariants as V
use Rattle.sv_types.specs.declared.statement.Outcome.TheVariants.{Normal}
use Rattle.sv_types.specs.Meanings.{total}
use Rattle.sv_types.specs.Runs.{is_true}
use Rattle.sv_types.specs.Expressions.{meaning}
use Rattle.sv_types.specs.Statements.{doing, steps}
use Rattle.eval_parts.specs.declared.halt.Halt.TheVariants as H
use Rattle.eval_parts.specs.Steps.{is_held}
use Rattle.eval_exprs.specs.Held.{formals}
use Rattle.eval_exprs.proofs.Turns.{at-front}
use Rattle.eval_stmts.specs.Controls.{loop_step, variable_step}
use Rattle.eval_stmts.specs.Limits.{StmtFits, AllStmtsFit, ScopeFits, PerhapsFits, perhaps}
use Rattle.eval_stmts.specs.Stepping.{Does, Resumes, StepGives, step_of, counted_step, in_turn}
use Rattle.eval_stmts.specs.Targets.{Chooses, select_step, step_or_idle, item_or, body_or_nothing}
use Rattle.eval_stmts.proofs.Branches as B
use Rattle.eval_stmts.proofs.Chains as C
use Rattle.eval_stmts.proofs.Fitting.{block-fits}
use Rattle.eval_stmts.proofs.Sizes as N
use Rattle.eval_stmts.proofs.Sizes.{nodes}
use Rattle.eval_stmts.proofs.Turning as U
use Rattle.eval_runs.specs.Forms.{TurnGives, branch_step, body_step, scope_step, before, followed}
use Rattle.eval_runs.proofs.Fits as F
use Rattle.eval_runs.proofs.Levels as L
use Rattle.eval_runs.proofs.Steps as T
use Rattle.eval_runs.proofs.statements.+run.Goals as goal

pub run-run_scope-requires : goal.run-run_scope-requires
run-run_scope-requires g t c κs within =
    let ls = c.as_slice.result.now in
    let ss = c.as_slice-in-Block.result.now in
    let fs = formals c.args.scope in
    let old = c.args.env.now in
    let is = c.in-Block.is ∙ ap (λ x. V.Block x c.in-Block.body) (sym c.as_slice.ensures) ∙ ap (λ x. V.Block ls x) (sym c.as_slice-in-Block.ensures) in
    let fit = block-fits c.args.s.now ls ss fs (is_held old.signals.items) is c.requires.fits in
    let held = C.same-held old c.count_in.new.env c.in_ok-count_in-in-Block.ensures.same in
    (omega (arith, c.decreases, ap nodes is, N.nodes-Block ls ss), (within, (c.requires.calls, subst (λ h. ScopeFits ls ss fs h) (sym held) fit)))

pub run-run_if-requires : goal.run-run_if-requires
run-run_if-requires g t c κs within =
    let on = c.in-If.on in
    let body = c.get.result.now in
    let other = c.in-If.other in
    let is = c.in-If.is ∙ ap (λ x. V.If on x other) (sym c.get.ensures) in
    let fit = F.if-fits c.args.s.now on body other (formals c.args.scope) (is_held c.args.env.now.signals.items) is c.requires.fits in
    (omega (arith, c.decreases, ap nodes is, N.nodes-If on body other), (within, (c.requires.calls, (fit.on, (fit.body, fit.other)))))

pub run-run_case-requires : goal.run-run_case-requires
run-run_case-requires g t c κs within =
    let kind = c.in-Case.kind in
    let on = c.in-Case.on in
    let items = c.as_slice-in-Case.result.now in
    let other = c.in-Case.other in
    let is = c.in-Case.is ∙ ap (λ x. V.Case kind on x other) (sym c.as_slice-in-Case.ensures) in
    let fit = F.case-fits c.args.s.now kind on items other (formals c.args.scope) (is_held c.args.env.now.signals.items) is c.requires.fits in
    (omega (arith, c.decreases, ap nodes is, N.nodes-Case kind on items other), (within, (c.requires.calls, (fit.on, (fit.items, fit.other)))))

pub run-run_loop-requires : goal.run-run_loop-requires
run-run_loop-requires g t c κs within =
    let n = c.in-Loop.local in
    let first = c.in-Loop.first in
    let test = c.in-Loop.test in
    let step = c.in-Loop.step in
    let body = c.get-in-Loop.result.now in
    let spot = c.in-Loop.spot in
    let is = c.in-Loop.is ∙ ap (λ x. V.Loop n first test step x spot) (sym c.get-in-Loop.ensures) in
    let fit = F.loop-fits c.args.s.now n first test step body spot (formals c.args.scope) (is_held c.args.env.now.signals.items) is c.requires.fits in
    (omega (arith, c.decreases, ap nodes is, N.nodes-Loop n first test step body spot), (within, (c.requires.calls, (record { first = fit.first; test = fit.test; step = fit.step }, fit.body))))

pub run-run_assign-requires-clause-fits : goal.run-run_assign-requires-clause-fits
run-run_assign-requires-clause-fits g t c =
    let to = c.as_slice-in-Assign.result.now in
    let e = c.in-Assign.value in
    let is = c.in-Assign.is ∙ ap (λ x. V.Assign x e c.in-Assign.later c.in-Assign.spot) (sym c.as_slice-in-Assign.ensures) in
    F.assign-fits c.args.s.now to e c.in-Assign.later c.in-Assign.spot (formals c.args.scope) (is_held c.args.env.now.signals.items) is c.requires.fits

pub run-run_routine-requires-clause-fits : goal.run-run_routine-requires-clause-fits
run-run_routine-requires-clause-fits g t c =
    let es = c.as_slice-in-Call.result.now in
    let is = c.in-Call.is ∙ ap (λ x. V.Call c.in-Call.function x c.in-Call.spot) (sym c.as_slice-in-Call.ensures) in
    F.call-fits c.args.s.now c.in-Call.function es c.in-Call.spot (formals c.args.scope) (is_held c.args.env.now.signals.items) is c.requires.fits

pub run-run_made-requires : goal.run-run_made-requires
run-run_made-requires g t c κs within =
    let ls = c.as_slice-in-Made.result.now in
    let ss = c.as_slice-in-Made-2.result.now in
    let o = c.in-Made.body in
    let is = c.in-Made.is ∙ ap (λ x. V.Made x c.in-Made.before o) (sym c.as_slice-in-Made.ensures) ∙ ap (λ x. V.Made ls x o) (sym c.as_slice-in-Made-2.ensures) in
    let fit = F.made-fits c.args.s.now ls ss o (formals c.args.scope) (is_held c.args.env.now.signals.items) is c.requires.fits in
    (omega (arith, c.decreases, ap nodes is, N.nodes-Made ls ss o), (within, (c.requires.calls, (fit.before, fit.body))))

pub run-returns-in-Case : goal.run-returns-in-Case
run-returns-in-Case g t c =
    let kind = c.in-Case.kind in
    let on = c.in-Case.on in
    let items = c.as_slice-in-Case.result.now in
    let other = c.in-Case.other in
    let is = c.in-Case.is ∙ ap (λ x. V.Case kind on x other) (sym c.as_slice-in-Case.ensures) in
    subst (λ st. StepGives c.run_case.result c.args.scope st c.args.env.now c.run_case.new.env) (L.step-Case c.args.s.now kind on items other is) c.run_case.ensures

pub run_case-returns-in_err-k : goal.run_case-returns-in_err-k
run_case-returns-in_err-k g t c =
    let p = err_from_is_err_and c.from_residual-in_err-k.result c.from_residual-in_err-k.ensures.1 in
    let sc = c.args.scope in
    let other = step_or_idle (perhaps c.args.other.now) in
    let sel = select_step c.args.kind (meaning c.args.on.now) c.args.items.now other in
    let old = c.args.env.now in
    let mid = c.count_in.new.env in
    let h = c.in_err-k.field-0.0 in
    let counted = B.counted-on sc sel old mid c.in_ok-count_in.ensures.same c.in_ok-count_in.ensures.counts in
    T.handed-on c.from_residual-in_err-k.result sc (counted_step sel) old c.chosen_item.new.env h (p.1 ∙ ap Err p.2)
    (C.resumed (Err h) sc sel (counted_step sel) old mid c.chosen_item.new.env counted (c.in_err-k.ensures other))

pub run_case-run-requires : goal.run_case-run-requires
run_case-run-requires g t c κs within =
    let sc = c.args.scope in
    let fs = formals sc in
    let items = c.args.items.now in
    let k = c.in-Some.k in
    let x = c.index-items-k.result in
    let old = c.args.env.now in
    let mid = c.count_in.new.env in
    let new = c.chosen_item.new.env in
    let chosen = subst (λ o. Chooses o sc c.args.kind c.args.on.now items mid new) c.in-Some.is c.in_ok-k.ensures in
    let held = (chosen.left (step_or_idle (perhaps c.args.other.now))).holds ∙ C.same-held old mid c.in_ok-count_in.ensures.same in (
      omega (arith, c.decreases, F.item-less items k x chosen.item),
      (within, (c.requires.calls, subst (StmtFits (get_or items k x).body fs) (sym held) (F.item-fits items k x fs (is_held old.signals.items) chosen.item c.requires.items))),
    )

pub run_case-run_perhaps-requires : goal.run_case-run_perhaps-requires
run_case-run_perhaps-requires g t c κs within =
    let sc = c.args.scope in
    let old = c.args.env.now in
    let mid = c.count_in.new.env in
    let held = (c.in_ok-k.ensures.left (step_or_idle (perhaps c.args.other.now))).holds ∙ C.same-held old mid c.in_ok-count_in.ensures.same in
    (omega (arith, c.decreases), (within, (c.requires.calls, subst (PerhapsFits c.args.other.now (formals sc)) (sym held) c.requires.other)))

pub run_case-returns-in-Some : goal.run_case-returns-in-Some
run_case-returns-in-Some g t c =
    let sc = c.args.scope in
    let items = c.args.items.now in
    let k = c.in-Some.k in
    let x = c.index-items-k.result in
    let other = step_or_idle (perhaps c.args.other.now) in
    let sel = select_step c.args.kind (meaning c.args.on.now) items other in
    let old = c.args.env.now in
    let mid = c.count_in.new.env in
    let cur = c.chosen_item.new.env in
    let new = c.run.new.env in
    let chosen = subst (λ o. Chooses o sc c.args.kind c.args.on.now items mid cur) c.in-Some.is c.in_ok-k.ensures in
    let counted = B.counted-on sc sel old mid c.in_ok-count_in.ensures.same c.in_ok-count_in.ensures.counts in
    let body = item_or (Some k) items other in
    C.resumed c.run.result sc body (counted_step sel) old cur new (C.onto sc body sel (counted_step sel) old mid cur counted (chosen.left other))
    (subst (λ o. StepGives c.run.result sc (body_or_nothing o) cur new) (sym (slice_get-get_or items k x chosen.item)) c.run.ensures)

pub run_case-returns-in-None : goal.run_case-returns-in-None
run_case-returns-in-None g t c =
    let sc = c.args.scope in
    let items = c.args.items.now in
    let other = step_or_idle (perhaps c.args.other.now) in
    let sel = select_step c.args.kind (meaning c.args.on.now) items other in
    let old = c.args.env.now in
    let mid = c.count_in.new.env in
    let cur = c.chosen_item.new.env in
    let new = c.run_perhaps.new.env in
    let chosen = subst (λ o. Chooses o sc c.args.kind c.args.on.now items mid cur) c.in-None.is c.in_ok-k.ensures in
    let counted = B.counted-on sc sel old mid c.in_ok-count_in.ensures.same c.in_ok-count_in.ensures.counts in
    C.resumed c.run_perhaps.result sc other (counted_step sel) old cur new (C.onto sc other sel (counted_step sel) old mid cur counted (chosen.left other)) c.run_perhaps.ensures

pub run_if-run-requires : goal.run_if-run-requires
run_if-run-requires g t c κs within =
    let held = C.same-held c.count_in.new.env c.is_true_in.new.env c.in_ok-is_true_in.ensures.same ∙ C.same-held c.args.env.now c.count_in.new.env c.in_ok-count_in.ensures.same in
    (omega (arith, c.decreases), (within, (c.requires.calls, subst (StmtFits c.args.body.now (formals c.args.scope)) (sym held) c.requires.body)))

pub run_if-run_perhaps-requires : goal.run_if-run_perhaps-requires
run_if-run_perhaps-requires g t c κs within =
    let held = C.same-held c.count_in.new.env c.is_true_in.new.env c.in_ok-is_true_in.ensures.same ∙ C.same-held c.args.env.now c.count_in.new.env c.in_ok-count_in.ensures.same in
    (omega (arith, c.decreases), (within, (c.requires.calls, subst (PerhapsFits c.args.other.now (formals c.args.scope)) (sym held) c.requires.other)))

pub run_if-returns-then-branch : goal.run_if-returns-then-branch
run_if-returns-then-branch g t c =
    let sc = c.args.scope in
    let on = meaning c.args.on.now in
    let body = step_of (doing c.args.body.now) in
    let other = step_or_idle (perhaps c.args.other.now) in
    let br = branch_step on body other in
    let old = c.args.env.now in
    let mid = c.count_in.new.env in
    let cur = c.is_true_in.new.env in
    let new = c.run.new.env in
    let counted = B.counted-on sc br old mid c.in_ok-count_in.ensures.same c.in_ok-count_in.ensures.counts in
    let test = c.in_ok-is_true_in.ensures in
    let tested = B.tested-true sc (is_true on) on.values c.in_ok-is_true_in.field-0 body other mid cur test.same test.gives.0 test.gives.1 c.if-branch.true in
    C.resumed c.run.result sc body (counted_step br) old cur new (C.onto sc body br (counted_step br) old mid cur counted tested) c.run.ensures

pub run_if-returns-else-branch : goal.run_if-returns-else-branch
run_if-returns-else-branch g t c =
    let sc = c.args.scope in
    let on = meaning c.args.on.now in
    let body = step_of (doing c.args.body.now) in
    let other = step_or_idle (perhaps c.args.other.now) in
    let br = branch_step on body other in
    let old = c.args.env.now in
    let mid = c.count_in.new.env in
    let cur = c.is_true_in.new.env in
    let new = c.run_perhaps.new.env in
    let counted = B.counted-on sc br old mid c.in_ok-count_in.ensures.same c.in_ok-count_in.ensures.counts in
    let test = c.in_ok-is_true_in.ensures in
    let tested = B.tested-false sc (is_true on) on.values c.in_ok-is_true_in.field-0 body other mid cur test.same test.gives.0 test.gives.1 c.if-branch.false in
    C.resumed c.run_perhaps.result sc other (counted_step br) old cur new (C.onto sc other br (counted_step br) old mid cur counted tested) c.run_perhaps.ensures

pub run_made-run-requires : goal.run_made-run-requires
run_made-run-requires g t c κs within =
    let is = c.in-Some.is ∙ ap Some (sym c.get.ensures) in
    let fs = formals c.args.scope in
    let old = c.args.env.now in (
      omega (arith, c.decreases, ap N.perhaps_nodes is),
      (within, (c.requires.calls, subst (StmtFits c.get.result.now fs) (sym c.in_ok-outcome-in-Some.ensures.holds) (subst (λ o. PerhapsFits o fs (is_held old.signals.items)) is c.requires.body))),
    )

pub run_scope-run_all-requires : goal.run_scope-run_all-requires
run_scope-run_all-requires g t c κs within =
    let held = (c.in_ok-start_all.ensures []).holds in
    (omega (arith, c.decreases), (within, (c.requires.calls, subst (AllStmtsFit c.args.body.now (formals c.args.scope)) (sym held) c.requires.fits.body)))

pub run_scope-returns : goal.run_scope-returns
run_scope-returns g t c =
    let rest = steps (map doing c.args.body.now) in
    C.resumed c.run_all.result c.args.scope (in_turn rest) (scope_step c.args.locals.now c.args.body.now) c.args.env.now c.start_all.new.env c.run_all.new.env (c.in_ok-start_all.ensures rest) c.run_all.ensures

pub run_all-returns-in_err-outcome : goal.run_all-returns-in_err-outcome
run_all-returns-in_err-outcome g t c =
    let p = err_from_is_err_and c.from_residual.result c.from_residual.ensures.1 in
    let sc = c.args.scope in
    let ss = c.args.body.now in
    let cur = c.loop-s.env in
    let x = c.s-item.result in
    let rest = drop (c.loop-s.s-index + 1) ss in
    let here = at-front ss c.loop-s.s-index x (omega arith) c.s-item.is in
    let h = c.in_err-outcome.field-0.0 in
    T.handed-on c.from_residual.result sc (body_step ss) c.args.env.now c.run.new.env h (p.1 ∙ ap Err p.2)
    (C.resumed (Err h) sc (body_step (x ∷ rest)) (body_step ss) c.args.env.now cur c.run.new.env (subst (λ xs. Resumes sc (body_step xs) (body_step ss) c.args.env.now cur) here c.loop-s.invariant.left)
    (C.first-stops sc (step_of (doing x)) (steps (map doing rest)) cur h c.in_err-outcome.ensures))

pub run_all-returns-then-not-goes_on : goal.run_all-returns-then-not-goes_on
run_all-returns-then-not-goes_on g t c =
    let sc = c.args.scope in
    let ss = c.args.body.now in
    let cur = c.loop-s.env in
    let x = c.s-item.result in
    let rest = drop (c.loop-s.s-index + 1) ss in
    let here = at-front ss c.loop-s.s-index x (omega arith) c.s-item.is in
    let o = c.in_ok-outcome.outcome in
    C.resumed (Ok o) sc (body_step (x ∷ rest)) (body_step ss) c.args.env.now cur c.run.new.env (subst (λ xs. Resumes sc (body_step xs) (body_step ss) c.args.env.now cur) here c.loop-s.invariant.left)
    (C.ends sc (step_of (doing x)) (steps (map doing rest)) cur c.run.new.env o (sym c.goes_on.ensures ∙ c.if-not-goes_on.true) c.in_ok-outcome.ensures)

pub run_all-loop-s-preserved : goal.run_all-loop-s-preserved
run_all-loop-s-preserved g t c =
    let sc = c.args.scope in
    let fs = formals sc in
    let ss = c.args.body.now in
    let cur = c.loop-s.env in
    let new = c.run.new.env in
    let x = c.s-item.result in
    let rest = drop (c.loop-s.s-index + 1) ss in
    let here = at-front ss c.loop-s.s-index x (omega arith) c.s-item.is in
    let o = c.in_ok-outcome.outcome in
    let normal = C.normal-is o (sym c.goes_on.ensures ∙ c.if-not-goes_on.false) in
    let d = subst (λ q. Does sc (step_of (doing x)) cur new q) normal c.in_ok-outcome.ensures in
    record {
      fits = subst (AllStmtsFit rest fs) (sym d.holds) (subst (λ xs. AllStmtsFit xs fs (is_held cur.signals.items)) here c.loop-s.invariant.fits).1;
      few = omega (arith, c.loop-s.invariant.few, ap (λ xs. total (map nodes xs)) here);
      left = C.onto sc (body_step rest) (body_step (x ∷ rest)) (body_step ss) c.args.env.now cur new (subst (λ xs. Resumes sc (body_step xs) (body_step ss) c.args.env.now cur) here c.loop-s.invariant.left)
          (C.next sc (step_of (doing x)) (steps (map doing rest)) cur new d);
    }

pub run_all-returns : goal.run_all-returns
run_all-returns g t c =
    let sc = c.args.scope in
    let ss = c.args.body.now in
    let cur = c.loop-s.env in
    C.resumed (Ok Normal) sc (body_step []) (body_step ss) c.args.env.now cur cur (subst (λ xs. Resumes sc (body_step xs) (body_step ss) c.args.env.now cur) (drop_of_length-le ss (omega arith)) c.loop-s.invariant.left) (C.no-more sc cur)

pub run_loop-returns-in_err-is_true_in : goal.run_loop-returns-in_err-is_true_in
run_loop-returns-in_err-is_true_in g t c =
    let p = err_from_is_err_and c.from_residual-in_err-is_true_in.result c.from_residual-in_err-is_true_in.ensures.1 in
    let sc = c.args.scope in
    let ctl = c.args.control in
    let body = step_of (doing c.args.body.now) in
    let i = c.loop-turn._turn in
    let n = 65536 - (i + 1) in
    let cur = c.loop-turn.env in
    let h = c.in_err-is_true_in.field-0.0 in
    T.handed-on c.from_residual-in_err-is_true_in.result sc (loop_step ctl body) c.args.env.now c.is_true_in.new.env h (p.1 ∙ ap Err p.2)
    (C.resumed (Err h) sc (T.rest_of ctl body (suc n)) (loop_step ctl body) c.args.env.now cur c.is_true_in.new.env
    (T.loop-here sc ctl body i (suc n) c.args.env.now c.set_variable.new.env cur (omega arith) c.in_ok-set_variable.ensures c.loop-turn.invariant.left)
    (U.test-stops sc n (meaning ctl.test.now) body (variable_step ctl ctl.step.now) cur h c.in_err-is_true_in.ensures.gives))

pub run_loop-returns-then-not-branch : goal.run_loop-returns-then-not-branch
run_loop-returns-then-not-branch g t c =
    let sc = c.args.scope in
    let ctl = c.args.control in
    let body = step_of (doing c.args.body.now) in
    let i = c.loop-turn._turn in
    let n = 65536 - (i + 1) in
    let cur = c.loop-turn.env in
    let new = c.is_true_in.new.env in
    let test = c.in_ok-is_true_in.ensures in
    C.resumed (Ok Normal) sc (T.rest_of ctl body (suc n)) (loop_step ctl body) c.args.env.now cur new
    (T.loop-here sc ctl body i (suc n) c.args.env.now c.set_variable.new.env cur (omega arith) c.in_ok-set_variable.ensures c.loop-turn.invariant.left)
    (U.turns-end sc n (meaning ctl.test.now) c.in_ok-is_true_in.field-0 body (variable_step ctl ctl.step.now) cur new test.same test.gives.0 test.gives.1 c.if-not-branch.true)

pub run_loop-returns-in_err-is_true_in-2 : goal.run_loop-returns-in_err-is_true_in-2
run_loop-returns-in_err-is_true_in-2 g t c =
    let p = err_from_is_err_and c.from_residual-in_err-is_true_in-2.result c.from_residual-in_err-is_true_in-2.ensures.1 in
    let sc = c.args.scope in
    let ctl = c.args.control in
    let body = step_of (doing c.args.body.now) in
    let cur = c.loop-turn.env in
    let h = c.in_err-is_true_in-2.field-0.0 in
    T.handed-on c.from_residual-in_err-is_true_in-2.result sc (loop_step ctl body) c.args.env.now c.is_true_in-2.new.env h (p.1 ∙ ap Err p.2)
    (C.resumed (Err h) sc (T.rest_of ctl body 0) (loop_step ctl body) c.args.env.now cur c.is_true_in-2.new.env
    (T.loop-here sc ctl body c.loop-turn._turn 0 c.args.env.now c.set_variable.new.env cur (omega arith) c.in_ok-set_variable.ensures c.loop-turn.invariant.left)
    (U.last-stops sc (meaning ctl.test.now) body (variable_step ctl ctl.step.now) cur h c.in_err-is_true_in-2.ensures.gives))

pub run_loop-returns-in_err-outcome : goal.run_loop-returns-in_err-outcome
run_loop-returns-in_err-outcome g t c =
    let p = err_from_is_err_and c.from_residual-in_err-outcome.result c.from_residual-in_err-outcome.ensures.1 in
    let sc = c.args.scope in
    let ctl = c.args.control in
    let body = step_of (doing c.args.body.now) in
    let st = variable_step ctl ctl.step.now in
    let i = c.loop-turn._turn in
    let n = 65536 - (i + 1) in
    let start = c.args.env.now in
    let cur = c.loop-turn.env in
    let mid = c.is_true_in.new.env in
    let test = c.in_ok-is_true_in.ensures in
    let h = c.in_err-outcome.field-0.0 in
    let left = T.loop-here sc ctl body i (suc n) start c.set_variable.new.env cur (omega arith) c.in_ok-set_variable.ensures c.loop-turn.invariant.left in
    let turn = followed body (before st (T.rest_of ctl body n)) in
    T.handed-on c.from_residual-in_err-outcome.result sc (loop_step ctl body) start c.run_turn.new.env h (p.1 ∙ ap Err p.2)
    (C.resumed (Err h) sc turn (loop_step ctl body) start mid c.run_turn.new.env
    (C.onto sc turn (T.rest_of ctl body (suc n)) (loop_step ctl body) start cur mid left (U.turn-begins sc n (meaning ctl.test.now) c.in_ok-is_true_in.field-0 body st cur mid test.same test.gives.0 test.gives.1 c.if-not-branch.false))
    (c.in_err-outcome.ensures (T.rest_of ctl body n)))

pub run_loop-returns-in-Some : goal.run_loop-returns-in-Some
run_loop-returns-in-Some g t c =
    let sc = c.args.scope in
    let ctl = c.args.control in
    let body = step_of (doing c.args.body.now) in
    let st = variable_step ctl ctl.step.now in
    let i = c.loop-turn._turn in
    let n = 65536 - (i + 1) in
    let start = c.args.env.now in
    let cur = c.loop-turn.env in
    let mid = c.is_true_in.new.env in
    let new = c.run_turn.new.env in
    let test = c.in_ok-is_true_in.ensures in
    let left = T.loop-here sc ctl body i (suc n) start c.set_variable.new.env cur (omega arith) c.in_ok-set_variable.ensures c.loop-turn.invariant.left in
    let turn = followed body (before st (T.rest_of ctl body n)) in
    let ended = subst (λ o. TurnGives (Ok o) sc body st mid new) c.in-Some.is c.in_ok-outcome.ensures in
    C.resumed (Ok c.in-Some.outcome) sc turn (loop_step ctl body) start mid new
    (C.onto sc turn (T.rest_of ctl body (suc n)) (loop_step ctl body) start cur mid left (U.turn-begins sc n (meaning ctl.test.now) c.in_ok-is_true_in.field-0 body st cur mid test.same test.gives.0 test.gives.1 c.if-not-branch.false))
    (ended (before st (T.rest_of ctl body n)))

pub run_loop-loop-turn-preserved : goal.run_loop-loop-turn-preserved
run_loop-loop-turn-preserved g t c =
    let sc = c.args.scope in
    let ctl = c.args.control in
    let body = step_of (doing c.args.body.now) in
    let st = variable_step ctl ctl.step.now in
    let i = c.loop-turn._turn in
    let n = 65536 - (i + 1) in
    let first = c.set_variable.new.env in
    let cur = c.loop-turn.env in
    let mid = c.is_true_in.new.env in
    let new = c.run_turn.new.env in
    let test = c.in_ok-is_true_in.ensures in
    let rest = T.rest_of ctl body n in
    let turn = followed body (before st rest) in
    let on = (subst (λ o. TurnGives (Ok o) sc body st mid new) c.in-None.is c.in_ok-outcome.ensures) rest in
    let one : suc n ≡ 65536 - i = omega arith in
    let begins = U.turn-begins sc n (meaning ctl.test.now) c.in_ok-is_true_in.field-0 body st cur mid test.same test.gives.0 test.gives.1 c.if-not-branch.false in
    record {
      held = on.holds ∙ C.same-held cur mid test.same ∙ c.loop-turn.invariant.held;
      left = C.onto sc rest (T.rest_of ctl body (65536 - i)) (T.rest_of ctl body 65536) first cur new c.loop-turn.invariant.left
          (subst (λ k. Resumes sc rest (T.rest_of ctl body k) cur new) one (C.onto sc rest turn (T.rest_of ctl body (suc n)) cur mid new begins on));
    }

pub run_loop-returns-then-branch : goal.run_loop-returns-then-branch
run_loop-returns-then-branch g t c =
    let sc = c.args.scope in
    let ctl = c.args.control in
    let body = step_of (doing c.args.body.now) in
    let cur = c.loop-turn.env in
    let new = c.is_true_in-2.new.env in
    let test = c.in_ok-is_true_in-2.ensures in
    C.resumed (Err H.Turns) sc (T.rest_of ctl body 0) (loop_step ctl body) c.args.env.now cur new
    (T.loop-here sc ctl body c.loop-turn._turn 0 c.args.env.now c.set_variable.new.env cur (omega arith) c.in_ok-set_variable.ensures c.loop-turn.invariant.left)
    (U.too-many sc (meaning ctl.test.now) c.in_ok-is_true_in-2.field-0 body (variable_step ctl ctl.step.now) cur new test.gives.0 test.gives.1 c.if-branch.true)

pub run_loop-returns : goal.run_loop-returns
run_loop-returns g t c =
    let sc = c.args.scope in
    let ctl = c.args.control in
    let body = step_of (doing c.args.body.now) in
    let cur = c.loop-turn.env in
    let new = c.is_true_in-2.new.env in
    let test = c.in_ok-is_true_in-2.ensures in
    C.resumed (Ok Normal) sc (T.rest_of ctl body 0) (loop_step ctl body) c.args.env.now cur new
    (T.loop-here sc ctl body c.loop-turn._turn 0 c.args.env.now c.set_variable.new.env cur (omega arith) c.in_ok-set_variable.ensures c.loop-turn.invariant.left)
    (U.last-ends sc (meaning ctl.test.now) c.in_ok-is_true_in-2.field-0 body (variable_step ctl ctl.step.now) cur new test.same test.gives.0 test.gives.1 c.if-branch.false)

pub run_turn-returns-in_err-set_variable-in-Continue : goal.run_turn-returns-in_err-set_variable-in-Continue
run_turn-returns-in_err-set_variable-in-Continue g t c =
    let p = err_from_is_err_and c.from_residual-in_err-set_variable-in-Continue.result c.from_residual-in_err-set_variable-in-Continue.ensures.1 in
    let sc = c.args.scope in
    let ctl = c.args.control in
    let body = step_of (doing c.args.body.now) in
    let st = variable_step ctl ctl.step.now in
    let old = c.args.env.now in
    let mid = c.run.new.env in
    let new = c.set_variable-in-Continue.new.env in
    let d = subst (λ o. Does sc body old mid o) c.in-Continue.is c.in_ok-run.ensures in
    let h = c.in_err-set_variable-in-Continue.field-0.0 in
    subst (λ r. TurnGives r sc body st old new) (sym (p.1 ∙ ap Err p.2)) (λ rest. T.step-stops sc body st rest old mid new h (T.continues sc body (before st rest) old mid d) c.in_err-set_variable-in-Continue.ensures)

pub run_turn-returns-in_ok-set_variable-in-Normal : goal.run_turn-returns-in_ok-set_variable-in-Normal
run_turn-returns-in_ok-set_variable-in-Normal g t c = λ rest.
    let sc = c.args.scope in
    let ctl = c.args.control in
    let body = step_of (doing c.args.body.now) in
    let st = variable_step ctl ctl.step.now in
    let old = c.args.env.now in
    let mid = c.run.new.env in
    let d = subst (λ o. Does sc body old mid o) c.in-Normal.is c.in_ok-run.ensures in
    T.stepped sc body st rest old mid c.set_variable.new.env (T.goes-next sc body (before st rest) old mid d) c.in_ok-set_variable-in-Normal.ensures

pub run_turn-returns-in_ok-set_variable-in-Continue : goal.run_turn-returns-in_ok-set_variable-in-Continue
run_turn-returns-in_ok-set_variable-in-Continue g t c = λ rest.
    let sc = c.args.scope in
    let ctl = c.args.control in
    let body = step_of (doing c.args.body.now) in
    let st = variable_step ctl ctl.step.now in
    let old = c.args.env.now in
    let mid = c.run.new.env in
    let d = subst (λ o. Does sc body old mid o) c.in-Continue.is c.in_ok-run.ensures in
    T.stepped sc body st rest old mid c.set_variable-in-Continue.new.env (T.continues sc body (before st rest) old mid d) c.in_ok-set_variable-in-Continue.ensures
