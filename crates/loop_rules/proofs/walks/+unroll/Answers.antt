use Rattle.std.proofs.Common.{◌≡◌, ◌+◌, ◌∷◌, [], true, false, map, drop, Some, None, refl, rules, arith, ap, sym, ◌∙◌, subst}
use Rattle.std.proofs.Math.ListN.{drop_of_length-le}
use Rattle.std.proofs.lemmas.Bool.{and_parts}
use Rattle.sv_types.specs.declared.statement.Stmt.TheVariants as V
use Rattle.sv_types.specs.Layouts.{layout}
use Rattle.sv_types.specs.Meanings.{total}
use Rattle.sv_types.specs.Operators.{assigned_to, assigned_width}
use Rattle.sv_types.specs.Expressions.{meaning}
use Rattle.sv_types.specs.Functions.{parameter}
use Rattle.eval_forms.specs.Callees.{formals_in}
use Rattle.eval_parts.proofs.Lists.{own-narrow}
use Rattle.eval_exprs.proofs.Turns.{at-front}
use Rattle.eval_runs.proofs.Fits as E
use Rattle.eval_runs.proofs.Knots.{all-fit}
use Rattle.eval_stmts.proofs.Fitting.{block-fits}
use Rattle.eval_stmts.proofs.Given.{fits-alone}
use Rattle.eval_stmts.proofs.Sizes as N
use Rattle.eval_stmts.proofs.Sizes.{nodes, item_nodes, perhaps_nodes}
use Rattle.eval_stmts.specs.Limits.{AllStmtsFit, AllItemsFit, PerhapsFits}
use Rattle.eval_stmts.specs.Targets.{ActualsFit}
use Rattle.expr_flows.specs.Full.{is_full, all_full}
use Rattle.expr_flows.specs.Known.{sight, sight_in}
use Rattle.stmt_flows.specs.Full.{stmts_full, items_full, perhaps_full}
use Rattle.stmt_flows.proofs.Branching as B
use Rattle.stmt_flows.proofs.FullLevels as U
use Rattle.stmt_flows.specs.Turns.{IsInside, variable_of}
use Rattle.bound_values.specs.declared.bounds.Bound.{Bound}
use Rattle.bound_values.specs.declared.bounds.Test.{Test}
use Rattle.bound_values.specs.declared.bounds.Test.TheVariants as T
use Rattle.bound_values.specs.Bounds.{BoundIs}
use Rattle.design_breaks.specs.Indices.{unheld}
use Rattle.design_breaks.specs.Unrolling as A
use Rattle.design_breaks.specs.Unrolling.{starts_of}
use Rattle.design_breaks.specs.Actions.{passed_to}
use Rattle.loop_laws.specs.Walks.{see, walk, walk_all, walk_before, those, bodies, values, unrolls_of}
use Rattle.loop_laws.proofs.Statements as W
use Rattle.loop_rules.specs.Counted.{control_at}
use Rattle.loop_rules.specs.Turns.{TestGoesAs}
use Rattle.loop_rules.specs.Walks.{walk_made}
use Rattle.loop_rules.proofs.Turning as G
use Rattle.loop_rules.proofs.Unrolling as K
use Rattle.loop_rules.proofs.walks.+unroll.Goals as goal

pub unroll-see_starts-requires : goal.unroll-see_starts-requires
unroll-see_starts-requires t c =
    let s = c.args.s.now in
    let k = sight c.args.known in
    let ls = c.as_slice-locals.result.now in
    let ss = c.as_slice-body.result.now in
    let fs = formals_in c.args.known.functions.now in
    let is = c.in-Block.is ∙ ap (λ x. V.Block x c.in-Block.body) (sym c.as_slice-locals.ensures) ∙ ap (λ x. V.Block ls x) (sym c.as_slice-body.ensures) in
    let fit = block-fits s ls ss fs (λ n. true) is c.requires.fits in
    let full = U.full-Block fs s ls ss is c.requires.full in
    record { functions = c.requires.functions; fits = fit.locals; full = full.0 }

pub unroll-unroll_all-requires : goal.unroll-unroll_all-requires
unroll-unroll_all-requires t c =
    let s = c.args.s.now in
    let k = sight c.args.known in
    let ls = c.as_slice-locals.result.now in
    let ss = c.as_slice-body.result.now in
    let fs = formals_in c.args.known.functions.now in
    let is = c.in-Block.is ∙ ap (λ x. V.Block x c.in-Block.body) (sym c.as_slice-locals.ensures) ∙ ap (λ x. V.Block ls x) (sym c.as_slice-body.ensures) in
    let fit = block-fits s ls ss fs (λ n. true) is c.requires.fits in
    let full = U.full-Block fs s ls ss is c.requires.full in
    (omega (arith, c.decreases, ap nodes is, N.nodes-Block ls ss), (c.requires.functions, (fit.body, full.1)))

pub unroll-returns-in_ok-seen-in-Block : goal.unroll-returns-in_ok-seen-in-Block
unroll-returns-in_ok-seen-in-Block t c =
    let s = c.args.s.now in
    let k = sight c.args.known in
    let ls = c.as_slice-locals.result.now in
    let ss = c.as_slice-body.result.now in
    let fs = formals_in c.args.known.functions.now in
    let is = c.in-Block.is ∙ ap (λ x. V.Block x c.in-Block.body) (sym c.as_slice-locals.ensures) ∙ ap (λ x. V.Block ls x) (sym c.as_slice-body.ensures) in
    K.gives c.unroll_all.result (walk_all fs ss k c.in_ok-seen-in-Block.seen) (walk fs s k c.args.so_far)
    (ap (walk_all fs ss k) (c.in_ok-seen-in-Block.ensures ∙ ap (see (starts_of ls) k) c.one_more.ensures) ∙ sym (W.walk-Block fs s ls ss k c.args.so_far is)) c.unroll_all.ensures

pub unroll-see_one-requires : goal.unroll-see_one-requires
unroll-see_one-requires t c =
    let s = c.args.s.now in
    let k = sight c.args.known in
    let on = c.in-If.on in
    let body = c.in-If.body in
    let other = c.in-If.other in
    let fs = formals_in c.args.known.functions.now in
    let is = c.in-If.is in
    let fit = E.if-fits s on body other fs (λ n. true) is c.requires.fits in
    let full = U.full-If fs s on body other is c.requires.full in
    record { functions = c.requires.functions; fits = fit.on; full = full.0 }

pub unroll-unroll-requires : goal.unroll-unroll-requires
unroll-unroll-requires t c =
    let s = c.args.s.now in
    let k = sight c.args.known in
    let on = c.in-If.on in
    let body = c.get.result.now in
    let other = c.in-If.other in
    let fs = formals_in c.args.known.functions.now in
    let is = c.in-If.is ∙ ap (λ x. V.If on x other) (sym c.get.ensures) in
    let fit = E.if-fits s on body other fs (λ n. true) is c.requires.fits in
    let full = U.full-If fs s on body other is c.requires.full in
    (omega (arith, c.decreases, ap nodes is, N.nodes-If on body other), (c.requires.functions, (fit.body, full.1.0)))

pub unroll-unroll_other-requires : goal.unroll-unroll_other-requires
unroll-unroll_other-requires t c =
    let s = c.args.s.now in
    let k = sight c.args.known in
    let on = c.in-If.on in
    let body = c.get.result.now in
    let other = c.in-If.other in
    let fs = formals_in c.args.known.functions.now in
    let is = c.in-If.is ∙ ap (λ x. V.If on x other) (sym c.get.ensures) in
    let fit = E.if-fits s on body other fs (λ n. true) is c.requires.fits in
    let full = U.full-If fs s on body other is c.requires.full in
    (omega (arith, c.decreases, ap nodes is, N.nodes-If on body other), (c.requires.functions, (fit.other, full.1.1)))

pub unroll-returns-in_ok-first-in-If : goal.unroll-returns-in_ok-first-in-If
unroll-returns-in_ok-first-in-If t c =
    let s = c.args.s.now in
    let k = sight c.args.known in
    let on = c.in-If.on in
    let body = c.get.result.now in
    let other = c.in-If.other in
    let fs = formals_in c.args.known.functions.now in
    let is = c.in-If.is ∙ ap (λ x. V.If on x other) (sym c.get.ensures) in
    K.gives c.unroll_other.result (walk_all fs (those other) k c.in_ok-first-in-If.first) (walk fs s k c.args.so_far)
    (
    ap (walk_all fs (those other) k) (c.in_ok-first-in-If.ensures ∙ ap (walk fs body k) (c.in_ok-seen-in-If.ensures ∙ ap (see (on ∷ []) k) c.one_more-in-If.ensures))
    ∙ sym (W.walk-If fs s on body other k c.args.so_far is)
    ) c.unroll_other.ensures

pub unroll-see_one-requires-in-Case : goal.unroll-see_one-requires-in-Case
unroll-see_one-requires-in-Case t c =
    let s = c.args.s.now in
    let k = sight c.args.known in
    let kind = c.in-Case.kind in
    let on = c.in-Case.on in
    let items = c.as_slice-items.result.now in
    let other = c.in-Case.other in
    let fs = formals_in c.args.known.functions.now in
    let is = c.in-Case.is ∙ ap (λ x. V.Case kind on x other) (sym c.as_slice-items.ensures) in
    let fit = E.case-fits s kind on items other fs (λ n. true) is c.requires.fits in
    let full = U.full-Case fs s kind on items other is c.requires.full in
    record { functions = c.requires.functions; fits = B.selector-fits on items fs fit.on; full = full.0 }

pub unroll-see_items-requires : goal.unroll-see_items-requires
unroll-see_items-requires t c =
    let s = c.args.s.now in
    let k = sight c.args.known in
    let kind = c.in-Case.kind in
    let on = c.in-Case.on in
    let items = c.as_slice-items.result.now in
    let other = c.in-Case.other in
    let fs = formals_in c.args.known.functions.now in
    let is = c.in-Case.is ∙ ap (λ x. V.Case kind on x other) (sym c.as_slice-items.ensures) in
    let fit = E.case-fits s kind on items other fs (λ n. true) is c.requires.fits in
    let full = U.full-Case fs s kind on items other is c.requires.full in
    record { functions = c.requires.functions; fits = B.case-items-fit on items fs fit.on; full = U.values-full fs items full.1.0 }

pub unroll-unroll_items-requires : goal.unroll-unroll_items-requires
unroll-unroll_items-requires t c =
    let s = c.args.s.now in
    let k = sight c.args.known in
    let kind = c.in-Case.kind in
    let on = c.in-Case.on in
    let items = c.as_slice-items.result.now in
    let other = c.in-Case.other in
    let fs = formals_in c.args.known.functions.now in
    let is = c.in-Case.is ∙ ap (λ x. V.Case kind on x other) (sym c.as_slice-items.ensures) in
    let fit = E.case-fits s kind on items other fs (λ n. true) is c.requires.fits in
    let full = U.full-Case fs s kind on items other is c.requires.full in
    (omega (arith, c.decreases, ap nodes is, N.nodes-Case kind on items other), (c.requires.functions, (fit.items, full.1.0)))

pub unroll-unroll_other-requires-in-Case : goal.unroll-unroll_other-requires-in-Case
unroll-unroll_other-requires-in-Case t c =
    let s = c.args.s.now in
    let k = sight c.args.known in
    let kind = c.in-Case.kind in
    let on = c.in-Case.on in
    let items = c.as_slice-items.result.now in
    let other = c.in-Case.other in
    let fs = formals_in c.args.known.functions.now in
    let is = c.in-Case.is ∙ ap (λ x. V.Case kind on x other) (sym c.as_slice-items.ensures) in
    let fit = E.case-fits s kind on items other fs (λ n. true) is c.requires.fits in
    let full = U.full-Case fs s kind on items other is c.requires.full in
    (omega (arith, c.decreases, ap nodes is, N.nodes-Case kind on items other), (c.requires.functions, (fit.other, full.1.1)))

pub unroll-returns-in_ok-first-in-Case : goal.unroll-returns-in_ok-first-in-Case
unroll-returns-in_ok-first-in-Case t c =
    let s = c.args.s.now in
    let k = sight c.args.known in
    let kind = c.in-Case.kind in
    let on = c.in-Case.on in
    let items = c.as_slice-items.result.now in
    let other = c.in-Case.other in
    let fs = formals_in c.args.known.functions.now in
    let is = c.in-Case.is ∙ ap (λ x. V.Case kind on x other) (sym c.as_slice-items.ensures) in
    K.gives c.unroll_other-in-Case.result (walk_all fs (those other) k c.in_ok-first-in-Case.first) (walk fs s k c.args.so_far)
    (
    ap (walk_all fs (those other) k)
    (c.in_ok-first-in-Case.ensures ∙ ap (walk_all fs (bodies items) k) (c.in_ok-all-in-Case.ensures ∙ ap (see (values items) k) (c.in_ok-seen-in-Case.ensures ∙ ap (see (on ∷ []) k) c.one_more-in-Case.ensures)))
    ∙ sym (W.walk-Case fs s kind on items other k c.args.so_far is)
    ) c.unroll_other-in-Case.ensures

pub unroll-unroll_loop-requires : goal.unroll-unroll_loop-requires
unroll-unroll_loop-requires t c =
    let s = c.args.s.now in
    let k = sight c.args.known in
    let n = c.in-Loop.local in
    let first = c.in-Loop.first in
    let test = c.in-Loop.test in
    let step = c.in-Loop.step in
    let body = c.get-in-Loop.result.now in
    let spot = c.in-Loop.spot in
    let fs = formals_in c.args.known.functions.now in
    let is = c.in-Loop.is ∙ ap (λ x. V.Loop n first test step x spot) (sym c.get-in-Loop.ensures) in
    let fit = E.loop-fits s n first test step body spot fs (λ n. true) is c.requires.fits in
    let full = U.full-Loop fs s n first test step body spot is c.requires.full in (
      omega (arith, c.decreases, ap nodes is, N.nodes-Loop n first test step body spot),
      (
        c.requires.functions,
        record {
          control = record { first = fit.first; test = fit.test; step = fit.step };
          narrow = own-narrow first fs (assigned_width (layout first.of).two_state (meaning first)) fit.first;
          turn = fit.body;
          full_control = full.0;
          full_body = full.1;
        },
      ),
    )

pub unroll-returns-in-Loop : goal.unroll-returns-in-Loop
unroll-returns-in-Loop t c =
    let s = c.args.s.now in
    let k = sight c.args.known in
    let n = c.in-Loop.local in
    let first = c.in-Loop.first in
    let test = c.in-Loop.test in
    let step = c.in-Loop.step in
    let body = c.get-in-Loop.result.now in
    let spot = c.in-Loop.spot in
    let fs = formals_in c.args.known.functions.now in
    let is = c.in-Loop.is ∙ ap (λ x. V.Loop n first test step x spot) (sym c.get-in-Loop.ensures) in
    K.gives c.unroll_loop.result _ (walk fs s k c.args.so_far) (sym (W.walk-Loop fs s n first test step body spot k c.args.so_far is)) c.unroll_loop.ensures

pub unroll-see_all-requires : goal.unroll-see_all-requires
unroll-see_all-requires t c =
    let s = c.args.s.now in
    let k = sight c.args.known in
    let to = c.as_slice-to.result.now in
    let e = c.in-Assign.value in
    let fs = formals_in c.args.known.functions.now in
    let is = c.in-Assign.is ∙ ap (λ x. V.Assign x e c.in-Assign.later c.in-Assign.spot) (sym c.as_slice-to.ensures) in
    let fit = E.assign-fits s to e c.in-Assign.later c.in-Assign.spot fs (λ n. true) is c.requires.fits in
    let full = U.full-Assign fs s to e c.in-Assign.later c.in-Assign.spot is c.requires.full in
    record { functions = c.requires.functions; fits = fit.targets; full = full.1 }

pub unroll-see_one-requires-in-Assign : goal.unroll-see_one-requires-in-Assign
unroll-see_one-requires-in-Assign t c =
    let s = c.args.s.now in
    let k = sight c.args.known in
    let to = c.as_slice-to.result.now in
    let e = c.in-Assign.value in
    let fs = formals_in c.args.known.functions.now in
    let is = c.in-Assign.is ∙ ap (λ x. V.Assign x e c.in-Assign.later c.in-Assign.spot) (sym c.as_slice-to.ensures) in
    let fit = E.assign-fits s to e c.in-Assign.later c.in-Assign.spot fs (λ n. true) is c.requires.fits in
    let full = U.full-Assign fs s to e c.in-Assign.later c.in-Assign.spot is c.requires.full in
    record { functions = c.requires.functions; fits = fits-alone e fs _ (omega arith) fit.value; full = full.0 }

pub unroll-returns-in_ok-seen-in-Assign : goal.unroll-returns-in_ok-seen-in-Assign
unroll-returns-in_ok-seen-in-Assign t c =
    let s = c.args.s.now in
    let k = sight c.args.known in
    let to = c.as_slice-to.result.now in
    let e = c.in-Assign.value in
    let fs = formals_in c.args.known.functions.now in
    let is = c.in-Assign.is ∙ ap (λ x. V.Assign x e c.in-Assign.later c.in-Assign.spot) (sym c.as_slice-to.ensures) in
    K.gives c.see_one-in-Assign.result (see (e ∷ []) k c.in_ok-seen-in-Assign.seen) (walk fs s k c.args.so_far)
    (ap (see (e ∷ []) k) (c.in_ok-seen-in-Assign.ensures ∙ ap (see to k) c.one_more-in-Assign.ensures) ∙ sym (W.walk-Assign fs s to e c.in-Assign.later c.in-Assign.spot k c.args.so_far is)) c.see_one-in-Assign.ensures

pub unroll-formals_of-formals-requires : goal.unroll-formals_of-formals-requires
unroll-formals_of-formals-requires t c = all-fit c.args.known.functions.now (formals_in c.args.known.functions.now) c.requires.functions

pub unroll-see_passed-requires : goal.unroll-see_passed-requires
unroll-see_passed-requires t c =
    let s = c.args.s.now in
    let f = c.in-Call.function in
    let es = c.as_slice-actuals.result.now in
    let fs = formals_in c.args.known.functions.now in
    let is = c.in-Call.is ∙ ap (λ x. V.Call f x c.in-Call.spot) (sym c.as_slice-actuals.ensures) in
    let fit = E.call-fits s f es c.in-Call.spot fs (λ n. true) is c.requires.fits in
    record { functions = c.requires.functions; fits = subst (λ ps. ActualsFit ps es fs) (sym c.formals_of-formals.ensures.value) fit.actuals; full = U.full-Call fs s f es c.in-Call.spot is c.requires.full }

pub unroll-returns-in-Call : goal.unroll-returns-in-Call
unroll-returns-in-Call t c =
    let s = c.args.s.now in
    let k = sight c.args.known in
    let f = c.in-Call.function in
    let es = c.as_slice-actuals.result.now in
    let fs = formals_in c.args.known.functions.now in
    let is = c.in-Call.is ∙ ap (λ x. V.Call f x c.in-Call.spot) (sym c.as_slice-actuals.ensures) in
    let ps = map parameter c.formals_of-formals.result.now in
    K.gives c.see_passed.result (see (passed_to ps es) k c.one_more-in-Call.result) (walk fs s k c.args.so_far)
    (ap (λ qs. see (passed_to qs es) k c.one_more-in-Call.result) c.formals_of-formals.ensures.value ∙ ap (see (passed_to (fs f) es) k) c.one_more-in-Call.ensures ∙ sym (W.walk-Call fs s f es c.in-Call.spot k c.args.so_far is)) c.see_passed.ensures

pub unroll-unroll_made-requires : goal.unroll-unroll_made-requires
unroll-unroll_made-requires t c =
    let s = c.args.s.now in
    let k = sight c.args.known in
    let ls = c.as_slice-locals-in-Made.result.now in
    let ss = c.as_slice-before.result.now in
    let o = c.in-Made.body in
    let fs = formals_in c.args.known.functions.now in
    let is = c.in-Made.is ∙ ap (λ x. V.Made x c.in-Made.before o) (sym c.as_slice-locals-in-Made.ensures) ∙ ap (λ x. V.Made ls x o) (sym c.as_slice-before.ensures) in
    let fit = E.made-fits s ls ss o fs (λ n. true) is c.requires.fits in
    let full = U.full-Made fs s ls ss o is c.requires.full in
    (omega (arith, c.decreases, ap nodes is, N.nodes-Made ls ss o), (c.requires.functions, (fit.before, (full.0, (full.1.0, (fit.body, full.1.1))))))

pub unroll-returns-in-Made : goal.unroll-returns-in-Made
unroll-returns-in-Made t c =
    let s = c.args.s.now in
    let k = sight c.args.known in
    let ls = c.as_slice-locals-in-Made.result.now in
    let ss = c.as_slice-before.result.now in
    let o = c.in-Made.body in
    let fs = formals_in c.args.known.functions.now in
    let is = c.in-Made.is ∙ ap (λ x. V.Made x c.in-Made.before o) (sym c.as_slice-locals-in-Made.ensures) ∙ ap (λ x. V.Made ls x o) (sym c.as_slice-before.ensures) in
    K.gives c.unroll_made.result (walk_made fs ls ss o k c.args.so_far) (walk fs s k c.args.so_far) (K.made-is fs s ls ss o k c.args.so_far is) c.unroll_made.ensures

pub unroll-returns-in-Break : goal.unroll-returns-in-Break
unroll-returns-in-Break t c = c.one_more-in-Break.ensures ∙ sym (W.walk-Break (formals_in c.args.known.functions.now) c.args.s.now (sight c.args.known) c.args.so_far c.in-Break.is)

pub unroll-returns-in-Continue : goal.unroll-returns-in-Continue
unroll-returns-in-Continue t c = c.one_more-in-Continue.ensures ∙ sym (W.walk-Continue (formals_in c.args.known.functions.now) c.args.s.now (sight c.args.known) c.args.so_far c.in-Continue.is)

pub unroll-returns-in-Return : goal.unroll-returns-in-Return
unroll-returns-in-Return t c = c.one_more-in-Return.ensures ∙ sym (W.walk-Return (formals_in c.args.known.functions.now) c.args.s.now (sight c.args.known) c.args.so_far c.in-Return.is)

-- statements in order
pub unroll_all-loop-s-init : goal.unroll_all-loop-s-init
unroll_all-loop-s-init t c = record { few = omega arith; fits = c.requires.fits; full = c.requires.full; same = refl }

pub unroll_all-unroll-requires : goal.unroll_all-unroll-requires
unroll_all-unroll-requires t c =
    let fs = formals_in c.args.known.functions.now in
    let ss = c.args.ss.now in
    let i = c.loop-s.s-index in
    let x = c.s-item.result in
    let here = at-front ss i x (omega arith) c.s-item.is in
    let fit = subst (λ xs. AllStmtsFit xs fs (λ n. true)) here c.loop-s.invariant.fits in
    let full = subst (λ xs. stmts_full fs xs ≡ true) here c.loop-s.invariant.full in
    (omega (arith, c.decreases, c.loop-s.invariant.few, ap (λ xs. total (map nodes xs)) here), (c.requires.functions, (fit.0, U.first-full fs x (drop (i + 1) ss) full)))

pub unroll_all-loop-s-preserved : goal.unroll_all-loop-s-preserved
unroll_all-loop-s-preserved t c =
    let fs = formals_in c.args.known.functions.now in
    let k = sight c.args.known in
    let ss = c.args.ss.now in
    let i = c.loop-s.s-index in
    let x = c.s-item.result in
    let rest = drop (i + 1) ss in
    let here = at-front ss i x (omega arith) c.s-item.is in
    let full = subst (λ xs. stmts_full fs xs ≡ true) here c.loop-s.invariant.full in
    let all = walk_all fs ss k c.args.so_far in
    record {
      few = omega (arith, c.loop-s.invariant.few, ap (λ xs. total (map nodes xs)) here);
      fits = (subst (λ xs. AllStmtsFit xs fs (λ n. true)) here c.loop-s.invariant.fits).1;
      full = U.back-full fs (x ∷ []) rest full;
      same = K.walk-more fs x rest k c.loop-s.now c.in_ok-now.now all c.in_ok-now.ensures (subst (λ xs. walk_all fs xs k c.loop-s.now ≡ all) here c.loop-s.invariant.same);
    }

pub unroll_all-returns : goal.unroll_all-returns
unroll_all-returns t c =
    let fs = formals_in c.args.known.functions.now in
    let k = sight c.args.known in
    let ss = c.args.ss.now in
    sym (ap (λ xs. walk_all fs xs k c.loop-s.now) (drop_of_length-le ss (omega arith))) ∙ c.loop-s.invariant.same

-- items of a `case`
pub unroll_items-loop-item-init : goal.unroll_items-loop-item-init
unroll_items-loop-item-init t c = record { few = omega arith; fits = c.requires.fits; full = c.requires.full; same = refl }

pub unroll_items-unroll-requires : goal.unroll_items-unroll-requires
unroll_items-unroll-requires t c =
    let fs = formals_in c.args.known.functions.now in
    let is = c.args.items.now in
    let i = c.loop-item.item-index in
    let x = c.item-item.result in
    let here = at-front is i x (omega arith) c.item-item.is in
    let fit = subst (λ xs. AllItemsFit xs fs (λ n. true)) here c.loop-item.invariant.fits in
    let full = subst (λ xs. items_full fs xs ≡ true) here c.loop-item.invariant.full in
    (omega (arith, c.decreases, c.loop-item.invariant.few, N.item-nodes x, ap (λ xs. total (map item_nodes xs)) here), (c.requires.functions, (fit.0, (U.item-full fs x (drop (i + 1) is) full).1)))

pub unroll_items-loop-item-preserved : goal.unroll_items-loop-item-preserved
unroll_items-loop-item-preserved t c =
    let fs = formals_in c.args.known.functions.now in
    let k = sight c.args.known in
    let is = c.args.items.now in
    let i = c.loop-item.item-index in
    let x = c.item-item.result in
    let rest = drop (i + 1) is in
    let here = at-front is i x (omega arith) c.item-item.is in
    let full = subst (λ xs. items_full fs xs ≡ true) here c.loop-item.invariant.full in
    let all = walk_all fs (bodies is) k c.args.so_far in
    record {
      few = omega (arith, c.loop-item.invariant.few, ap (λ xs. total (map item_nodes xs)) here);
      fits = (subst (λ xs. AllItemsFit xs fs (λ n. true)) here c.loop-item.invariant.fits).1;
      full = U.back-items fs (x ∷ []) rest full;
      same = K.walk-more fs x.body (bodies rest) k c.loop-item.now c.in_ok-now.now all c.in_ok-now.ensures (subst (λ xs. walk_all fs (bodies xs) k c.loop-item.now ≡ all) here c.loop-item.invariant.same);
    }

pub unroll_items-returns : goal.unroll_items-returns
unroll_items-returns t c =
    let fs = formals_in c.args.known.functions.now in
    let k = sight c.args.known in
    let is = c.args.items.now in
    sym (ap (λ xs. walk_all fs (bodies xs) k c.loop-item.now) (drop_of_length-le is (omega arith))) ∙ c.loop-item.invariant.same

-- what may be left out
pub unroll_other-unroll-requires : goal.unroll_other-unroll-requires
unroll_other-unroll-requires t c =
    let fs = formals_in c.args.known.functions.now in
    let is = c.in-Some.is ∙ ap Some (sym c.get.ensures) in (
      omega (arith, c.decreases, ap perhaps_nodes is),
      (c.requires.functions, (subst (λ o. PerhapsFits o fs (λ n. true)) is c.requires.fits, subst (λ o. perhaps_full fs o ≡ true) is c.requires.full)),
    )

pub unroll_other-returns-in-None : goal.unroll_other-returns-in-None
unroll_other-returns-in-None t c = sym (ap (λ o. walk_all (formals_in c.args.known.functions.now) (those o) (sight c.args.known) c.args.so_far) c.in-None.is)

pub unroll_other-returns-in-Some : goal.unroll_other-returns-in-Some
unroll_other-returns-in-Some t c =
    let fs = formals_in c.args.known.functions.now in
    let k = sight c.args.known in
    let s = c.get.result.now in
    let is = c.in-Some.is ∙ ap Some (sym c.get.ensures) in
    K.gives c.unroll.result (walk fs s k c.args.so_far) (walk_all fs (those c.args.s.now) k c.args.so_far) (sym (ap (λ o. walk_all fs (those o) k c.args.so_far) is)) c.unroll.ensures

-- what stands for a replaced call
pub unroll_made-unroll_before-requires : goal.unroll_made-unroll_before-requires
unroll_made-unroll_before-requires t c = (omega (arith, c.decreases), (c.requires.functions, (c.requires.fits, (c.requires.locals_full, c.requires.before_full))))

pub unroll_made-unroll_before-requires-in-Some : goal.unroll_made-unroll_before-requires-in-Some
unroll_made-unroll_before-requires-in-Some t c = (omega (arith, c.decreases), (c.requires.functions, (c.requires.fits, (c.requires.locals_full, c.requires.before_full))))

pub unroll_made-unroll-requires : goal.unroll_made-unroll-requires
unroll_made-unroll-requires t c =
    let fs = formals_in c.args.known.functions.now in
    let is = c.in-Some.is ∙ ap Some (sym c.get.ensures) in (
      omega (arith, c.decreases, ap perhaps_nodes is),
      (c.requires.functions, (subst (λ o. PerhapsFits o fs (λ n. true)) is c.requires.body, subst (λ o. perhaps_full fs o ≡ true) is c.requires.body_full)),
    )

pub unroll_made-returns-in-None : goal.unroll_made-returns-in-None
unroll_made-returns-in-None t c =
    let fs = formals_in c.args.known.functions.now in
    let k = sight c.args.known in
    let ls = c.args.locals.now in
    let ss = c.args.before.now in
    K.gives c.unroll_before.result (walk_before fs ls ss k c.one_more.result) (walk_made fs ls ss c.args.body.now k c.args.so_far)
    (ap (walk_before fs ls ss k) c.one_more.ensures ∙ sym (ap (λ o. walk_made fs ls ss o k c.args.so_far) c.in-None.is)) c.unroll_before.ensures

pub unroll_made-returns-in_ok-front-in-Some : goal.unroll_made-returns-in_ok-front-in-Some
unroll_made-returns-in_ok-front-in-Some t c =
    let fs = formals_in c.args.known.functions.now in
    let k = sight c.args.known in
    let ls = c.args.locals.now in
    let ss = c.args.before.now in
    let s = c.get.result.now in
    let is = c.in-Some.is ∙ ap Some (sym c.get.ensures) in
    K.gives c.unroll.result (walk fs s k c.in_ok-front-in-Some.front) (walk_made fs ls ss c.args.body.now k c.args.so_far) (ap (walk fs s k) c.in_ok-front-in-Some.ensures ∙ sym (ap (λ o. walk_made fs ls ss o k c.args.so_far) is)) c.unroll.ensures

pub unroll_before-see_starts-requires : goal.unroll_before-see_starts-requires
unroll_before-see_starts-requires t c = record { functions = c.requires.functions; fits = c.requires.fits.locals; full = c.requires.locals_full }

pub unroll_before-unroll_all-requires : goal.unroll_before-unroll_all-requires
unroll_before-unroll_all-requires t c = (omega (arith, c.decreases), (c.requires.functions, (c.requires.fits.body, c.requires.before_full)))

pub unroll_before-returns-in-None : goal.unroll_before-returns-in-None
unroll_before-returns-in-None t c = K.before-full (formals_in c.args.known.functions.now) c.args.locals.now c.args.before.now (sight c.args.known) c.args.so_far c.in-None.is

pub unroll_before-returns-in_ok-walked-in-Some : goal.unroll_before-returns-in_ok-walked-in-Some
unroll_before-returns-in_ok-walked-in-Some t c =
    let fs = formals_in c.args.known.functions.now in
    let k = sight c.args.known in
    let ls = c.args.locals.now in
    K.before-open fs ls c.args.before.now k c.args.so_far c.in_ok-seen-in-Some.seen c.in_ok-walked-in-Some.walked c.with_left.result c.in-Some.field-0 c.in-Some.is
    (c.in_ok-seen-in-Some.ensures ∙ ap (see (starts_of ls) k) c.refilled.ensures) c.in_ok-walked-in-Some.ensures c.with_left.ensures

-- loops
pub unroll_loop-unroll_open-requires : goal.unroll_loop-unroll_open-requires
unroll_loop-unroll_open-requires t c = (omega (arith, c.decreases), (c.requires.functions, c.requires.fits))

pub unroll_loop-returns-in-None : goal.unroll_loop-returns-in-None
unroll_loop-returns-in-None t c = K.loop-full c.args.known c.args.control c.args.at c.args.body.now c.args.so_far c.in-None.is

pub unroll_loop-returns-in-Some : goal.unroll_loop-returns-in-Some
unroll_loop-returns-in-Some t c = K.loop-gives c.unroll_open.result c.args.known c.args.control c.args.at c.args.body.now c.args.so_far c.in-Some.field-0 c.in-Some.is c.unroll_open.ensures

pub unroll_open-is_counted-requires : goal.unroll_open-is_counted-requires
unroll_open-is_counted-requires t c = record { functions = c.requires.functions; fits = c.requires.fits.control; narrow = c.requires.fits.narrow; full = c.requires.fits.full_control }

pub unroll_open-assigned-requires : goal.unroll_open-assigned-requires
unroll_open-assigned-requires t c =
    let fs = formals_in c.args.known.functions.now in
    let a = c.args.control in
    record {
      functions = c.requires.functions;
      narrow = c.requires.fits.narrow;
      fits = c.requires.fits.control.first;
      full = (and_parts (is_full fs a.first.now) (all_full fs (a.test.now ∷ a.step.now ∷ [])) c.requires.fits.full_control).0;
    }

pub unroll_open-unroll_entered-requires : goal.unroll_open-unroll_entered-requires
unroll_open-unroll_entered-requires t c =
    let k = c.args.known in
    let e = c.args.control.first.now in
    let b = subst (λ (x : Bound). BoundIs x k e (λ v. v ≡ assigned_to (layout e.of).two_state (meaning e) (unheld (sight k).around))) c.in-Bits.is c.in_ok-long.ensures in
    (omega (arith, c.decreases), (c.requires.functions, (c.requires.fits, b.1)))

pub unroll_open-returns-then-is_past : goal.unroll_open-returns-then-is_past
unroll_open-returns-then-is_past t c = K.open-past c.args.known c.args.control c.args.at c.args.body.now c.args.so_far (sym c.is_past.ensures ∙ c.if-is_past.true)

pub unroll_open-returns-then-not-counted : goal.unroll_open-returns-then-not-counted
unroll_open-returns-then-not-counted t c =
    K.open-uncounted c.args.known c.args.control c.args.at c.args.body.now c.args.so_far (let no : c.in_ok-counted.counted ≡ false = search rules in sym (c.in_ok-counted.ensures c.args.at (sight c.args.known) (λ q. refl)) ∙ no)

pub unroll_open-returns-in-Long : goal.unroll_open-returns-in-Long
unroll_open-returns-in-Long t c =
    let k = c.args.known in
    let e = c.args.control.first.now in
    let b = subst (λ (x : Bound). BoundIs x k e (λ v. v ≡ assigned_to (layout e.of).two_state (meaning e) (unheld (sight k).around))) c.in-Long.is c.in_ok-long.ensures in
    K.open-long k c.args.control c.args.at c.in-Long.long c.args.body.now c.args.so_far c.found.result (sym c.is_past.ensures ∙ c.if-is_past.false) (let so : c.in_ok-counted.counted ≡ true = search rules in sym (c.in_ok-counted.ensures c.args.at (sight k) (λ q. refl)) ∙ so) b c.found.ensures

pub unroll_open-returns-in-Bits : goal.unroll_open-returns-in-Bits
unroll_open-returns-in-Bits t c =
    let k = c.args.known in
    let e = c.args.control.first.now in
    let b = subst (λ (x : Bound). BoundIs x k e (λ v. v ≡ assigned_to (layout e.of).two_state (meaning e) (unheld (sight k).around))) c.in-Bits.is c.in_ok-long.ensures in
    K.open-gives c.unroll_entered.result k c.args.control c.args.at c.args.body.now c.args.so_far (sym c.is_past.ensures ∙ c.if-is_past.false) (let so : c.in_ok-counted.counted ≡ true = search rules in sym (c.in_ok-counted.ensures c.args.at (sight k) (λ q. refl)) ∙ so) b.0 c.unroll_entered.ensures

pub unroll_entered-enter-requires : goal.unroll_entered-enter-requires
unroll_entered-enter-requires t c = record { narrow = c.requires.fits.narrow; first = c.requires.first }

pub unroll_entered-lasting-requires : goal.unroll_entered-lasting-requires
unroll_entered-lasting-requires t c = record {
  functions = c.requires.functions;
  fits = c.requires.fits.control;
  narrow = c.requires.fits.narrow;
  full = c.requires.fits.full_control;
  inside = subst (IsInside (variable_of c.args.control)) (sym c.as_slice-2.ensures.value) c.in_ok-inside.ensures.inside;
}

pub unroll_entered-returns-in-Some : goal.unroll_entered-returns-in-Some
unroll_entered-returns-in-Some t c =
    let k = c.args.known in
    let a = c.args.control in
    let ls = c.as_slice.result.now in
    let vs = c.as_slice-2.result.now in
    let same = K.sees-first k a c.in_ok-inside.inside ls vs c.args.at c.as_slice.ensures.value c.as_slice-2.ensures.value c.in_ok-inside.ensures in
    K.entered-long k a c.args.at c.in-Some.long c.args.body.now c.args.so_far c.found.result (sight_in k.functions.now ls vs) same (sym c.in-Some.is ∙ c.in_ok-long.ensures) c.found.ensures

pub unroll_entered-returns : goal.unroll_entered-returns
unroll_entered-returns t c =
    let k = c.args.known in
    let a = c.args.control in
    let ls = c.as_slice.result.now in
    let vs = c.as_slice-2.result.now in
    let same = K.sees-first k a c.in_ok-inside.inside ls vs c.args.at c.as_slice.ensures.value c.as_slice-2.ensures.value c.in_ok-inside.ensures in
    K.entered-turns c.unroll_turns.result k a c.args.at c.args.body.now c.args.so_far (sight_in k.functions.now ls vs) same (sym c.in-None.is ∙ c.in_ok-long.ensures) c.unroll_turns.ensures

-- turns of a loop that ends
pub unroll_turns-loop-turn-init : goal.unroll_turns-loop-turn-init
unroll_turns-loop-turn-init t c =
    let k = c.args.known in
    G.body-first (control_at c.args.at c.args.control) (unrolls_of (formals_in k.functions.now) c.args.body.now) k.functions.now k.variables.now c.in_ok-locals.locals.items k.locals.now c.args.so_far c.in_ok-locals.ensures c.requires.ends

pub unroll_turns-returns-then-is_none : goal.unroll_turns-returns-then-is_none
unroll_turns-returns-then-is_none t c =
    let k = c.args.known in
    let a = control_at c.args.at c.args.control in
    let F = unrolls_of (formals_in k.functions.now) c.args.body.now in
    let h = sight_in k.functions.now c.loop-turn.locals.items k.variables.now in
    let none : c.loop-turn.now.left ≡ None = search rules in
    G.body-full a c.loop-turn._turn F h c.loop-turn.now (A.turns 65536 a F (sight k) c.args.so_far) c.loop-turn.invariant (omega arith) none

pub unroll_turns-returns-in-Long : goal.unroll_turns-returns-in-Long
unroll_turns-returns-in-Long t c =
    let k = c.args.known in
    let a = c.args.control in
    let F = unrolls_of (formals_in k.functions.now) c.args.body.now in
    let vs = k.variables.now in
    let ls = c.as_slice-in-loop-turn.result.now in
    let h = sight_in k.functions.now c.loop-turn.locals.items vs in
    G.body-long a c.args.at c.loop-turn._turn c.in-Long.field-0 F h c.loop-turn.now (A.turns 65536 (control_at c.args.at a) F (sight k) c.args.so_far) c.loop-turn.invariant (omega arith)
    (subst (λ xs. TestGoesAs (T.Long c.in-Long.field-0) a (sight_in k.functions.now xs vs)) c.as_slice-in-loop-turn.ensures.value (subst (λ (x : Test). TestGoesAs x a (sight_in k.functions.now ls vs)) c.in-Long.is c.in_ok-goes_on.ensures))

pub unroll_turns-returns-in-Stops : goal.unroll_turns-returns-in-Stops
unroll_turns-returns-in-Stops t c =
    let k = c.args.known in
    let a = c.args.control in
    let F = unrolls_of (formals_in k.functions.now) c.args.body.now in
    let vs = k.variables.now in
    let ls = c.as_slice-in-loop-turn.result.now in
    let h = sight_in k.functions.now c.loop-turn.locals.items vs in
    G.body-stops a c.args.at c.loop-turn._turn F h c.loop-turn.now (A.turns 65536 (control_at c.args.at a) F (sight k) c.args.so_far) c.loop-turn.invariant (omega arith)
    (subst (λ xs. TestGoesAs T.Stops a (sight_in k.functions.now xs vs)) c.as_slice-in-loop-turn.ensures.value (subst (λ (x : Test). TestGoesAs x a (sight_in k.functions.now ls vs)) c.in-Stops.is c.in_ok-goes_on.ensures))

pub unroll_turns-loop-turn-preserved : goal.unroll_turns-loop-turn-preserved
unroll_turns-loop-turn-preserved t c =
    let k = c.args.known in
    let a = c.args.control in
    let fs = k.functions.now in
    let body = c.args.body.now in
    let F = unrolls_of (formals_in fs) body in
    let vs = k.variables.now in
    let ls = c.as_slice-in-loop-turn.result.now in
    let h = sight_in fs c.loop-turn.locals.items vs in
    let j = sight_in fs c.advance.new.locals.items vs in
    let goes = subst (λ xs. TestGoesAs T.Goes a (sight_in fs xs vs)) c.as_slice-in-loop-turn.ensures.value (subst (λ (x : Test). TestGoesAs x a (sight_in fs ls vs)) c.in-Goes.is c.in_ok-goes_on.ensures) in
    let walked = c.in_ok-now.ensures ∙ ap (λ xs. walk (formals_in fs) body (sight_in fs xs vs) c.loop-turn.now) c.as_slice.ensures.value in
    G.body-next a c.args.at c.loop-turn._turn F h j c.loop-turn.now c.in_ok-now.now (A.turns 65536 (control_at c.args.at a) F (sight k) c.args.so_far) c.in_ok-_short._short c.loop-turn.invariant goes walked c.in_ok-_short.ensures

pub unroll_turns-returns : goal.unroll_turns-returns
unroll_turns-returns t c =
    let k = c.args.known in
    let a = control_at c.args.at c.args.control in
    let F = unrolls_of (formals_in k.functions.now) c.args.body.now in
    let h = sight_in k.functions.now c.loop-turn.locals.items k.variables.now in
    G.body-last a c.loop-turn._turn F h c.loop-turn.now (A.turns 65536 a F (sight k) c.args.so_far) c.loop-turn.invariant (omega arith)
