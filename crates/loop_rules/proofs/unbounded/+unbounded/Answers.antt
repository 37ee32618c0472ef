use Rattle.std.proofs.Common.{◌≡◌, ◌+◌, ◌∷◌, [], true, map, drop, flat_map, Some, refl, arith, ap, sym, ◌∙◌, subst}
use Rattle.std.proofs.Math.ListN.{drop_of_length-le}
use Rattle.sv_types.specs.declared.statement.Stmt.TheVariants as V
use Rattle.sv_types.specs.Layouts.{layout}
use Rattle.sv_types.specs.Meanings.{total}
use Rattle.sv_types.specs.Operators.{assigned_width}
use Rattle.sv_types.specs.Expressions.{meaning}
use Rattle.eval_forms.specs.Callees.{formals_in}
use Rattle.eval_parts.proofs.Lists.{own-narrow}
use Rattle.eval_exprs.proofs.Turns.{at-front}
use Rattle.eval_runs.proofs.Fits as E
use Rattle.eval_stmts.proofs.Fitting.{block-fits}
use Rattle.eval_stmts.proofs.Sizes as N
use Rattle.eval_stmts.proofs.Sizes.{nodes, item_nodes, perhaps_nodes}
use Rattle.eval_stmts.specs.Limits.{AllStmtsFit, AllItemsFit, PerhapsFits}
use Rattle.expr_flows.specs.declared.known.Known.{Known}
use Rattle.stmt_flows.specs.Full.{stmts_full, items_full, perhaps_full}
use Rattle.stmt_flows.proofs.FullLevels as U
use Rattle.least_breaks.specs.Least.{least_from}
use Rattle.design_breaks.specs.Actions as A
use Rattle.design_breaks.specs.Actions.{actions}
use Rattle.break_laws.proofs.ActionLevels.{control_of}
use Rattle.loop_laws.specs.Walks.{those, bodies}
use Rattle.loop_rules.specs.Counted.{unbounded_in}
use Rattle.loop_rules.proofs.Counting as C
use Rattle.loop_rules.proofs.unbounded.+unbounded.Goals as goal

-- blocks
pub least_of_stmt-least_of_all-requires : goal.least_of_stmt-least_of_all-requires
least_of_stmt-least_of_all-requires t c =
    let s = c.args.s.now in
    let ls = c.in-Block.locals in
    let ss = c.as_slice.result.now in
    let fs = formals_in c.args.known.functions.now in
    let is = c.in-Block.is ∙ ap (λ x. V.Block ls x) (sym c.as_slice.ensures) in
    let fit = block-fits s ls ss fs (λ n. true) is c.requires.fits in
    (omega (arith, c.decreases, ap nodes is, N.nodes-Block ls ss), (c.requires.functions, (fit.body, (U.full-Block fs s ls ss is c.requires.full).1)))

pub least_of_stmt-returns-in-Block : goal.least_of_stmt-returns-in-Block
least_of_stmt-returns-in-Block t c =
    let s = c.args.s.now in
    let ls = c.in-Block.locals in
    let ss = c.as_slice.result.now in
    let fs = formals_in c.args.known.functions.now in
    let is = c.in-Block.is ∙ ap (λ x. V.Block ls x) (sym c.as_slice.ensures) in
    C.give-as c.least_of_all.result c.args.known c.args.least (λ h. flat_map (unbounded_in fs h) ss) (λ h. unbounded_in fs h s) (λ h. C.in-Block fs h s ls ss is) c.least_of_all.ensures

-- `if`
pub least_of_stmt-least_of_stmt-requires : goal.least_of_stmt-least_of_stmt-requires
least_of_stmt-least_of_stmt-requires t c =
    let s = c.args.s.now in
    let on = c.in-If.on in
    let body = c.get.result.now in
    let other = c.in-If.other in
    let fs = formals_in c.args.known.functions.now in
    let is = c.in-If.is ∙ ap (λ x. V.If on x other) (sym c.get.ensures) in
    let fit = E.if-fits s on body other fs (λ n. true) is c.requires.fits in
    let full = U.full-If fs s on body other is c.requires.full in
    (omega (arith, c.decreases, ap nodes is, N.nodes-If on body other), (c.requires.functions, (fit.body, full.1.0)))

pub least_of_stmt-least_of_other-requires : goal.least_of_stmt-least_of_other-requires
least_of_stmt-least_of_other-requires t c =
    let s = c.args.s.now in
    let on = c.in-If.on in
    let body = c.get.result.now in
    let other = c.in-If.other in
    let fs = formals_in c.args.known.functions.now in
    let is = c.in-If.is ∙ ap (λ x. V.If on x other) (sym c.get.ensures) in
    let fit = E.if-fits s on body other fs (λ n. true) is c.requires.fits in
    let full = U.full-If fs s on body other is c.requires.full in
    (omega (arith, c.decreases, ap nodes is, N.nodes-If on body other), (c.requires.functions, (fit.other, full.1.1)))

pub least_of_stmt-returns-in_ok-so_far-in-If : goal.least_of_stmt-returns-in_ok-so_far-in-If
least_of_stmt-returns-in_ok-so_far-in-If t c =
    let s = c.args.s.now in
    let on = c.in-If.on in
    let body = c.get.result.now in
    let other = c.in-If.other in
    let fs = formals_in c.args.known.functions.now in
    let is = c.in-If.is ∙ ap (λ x. V.If on x other) (sym c.get.ensures) in
    C.give-two c.least_of_other.result c.args.known c.args.least c.in_ok-so_far-in-If.so_far (λ h. unbounded_in fs h body) (λ h. flat_map (unbounded_in fs h) (those other)) (λ h. unbounded_in fs h s) (λ h. C.in-If fs h s on body other is)
    c.in_ok-so_far-in-If.ensures c.least_of_other.ensures

-- `case`
pub least_of_stmt-least_of_items-requires : goal.least_of_stmt-least_of_items-requires
least_of_stmt-least_of_items-requires t c =
    let s = c.args.s.now in
    let kind = c.in-Case.kind in
    let on = c.in-Case.on in
    let items = c.as_slice-in-Case.result.now in
    let other = c.in-Case.other in
    let fs = formals_in c.args.known.functions.now in
    let is = c.in-Case.is ∙ ap (λ x. V.Case kind on x other) (sym c.as_slice-in-Case.ensures) in
    let fit = E.case-fits s kind on items other fs (λ n. true) is c.requires.fits in
    let full = U.full-Case fs s kind on items other is c.requires.full in
    (omega (arith, c.decreases, ap nodes is, N.nodes-Case kind on items other), (c.requires.functions, (fit.items, full.1.0)))

pub least_of_stmt-least_of_other-requires-in-Case : goal.least_of_stmt-least_of_other-requires-in-Case
least_of_stmt-least_of_other-requires-in-Case t c =
    let s = c.args.s.now in
    let kind = c.in-Case.kind in
    let on = c.in-Case.on in
    let items = c.as_slice-in-Case.result.now in
    let other = c.in-Case.other in
    let fs = formals_in c.args.known.functions.now in
    let is = c.in-Case.is ∙ ap (λ x. V.Case kind on x other) (sym c.as_slice-in-Case.ensures) in
    let fit = E.case-fits s kind on items other fs (λ n. true) is c.requires.fits in
    let full = U.full-Case fs s kind on items other is c.requires.full in
    (omega (arith, c.decreases, ap nodes is, N.nodes-Case kind on items other), (c.requires.functions, (fit.other, full.1.1)))

pub least_of_stmt-returns-in_ok-so_far-in-Case : goal.least_of_stmt-returns-in_ok-so_far-in-Case
least_of_stmt-returns-in_ok-so_far-in-Case t c =
    let s = c.args.s.now in
    let kind = c.in-Case.kind in
    let on = c.in-Case.on in
    let items = c.as_slice-in-Case.result.now in
    let other = c.in-Case.other in
    let fs = formals_in c.args.known.functions.now in
    let is = c.in-Case.is ∙ ap (λ x. V.Case kind on x other) (sym c.as_slice-in-Case.ensures) in
    C.give-two c.least_of_other-in-Case.result c.args.known c.args.least c.in_ok-so_far-in-Case.so_far (λ h. flat_map (unbounded_in fs h) (bodies items)) (λ h. flat_map (unbounded_in fs h) (those other)) (λ h. unbounded_in fs h s)
    (λ h. C.in-Case fs h s kind on items other is) c.in_ok-so_far-in-Case.ensures c.least_of_other-in-Case.ensures

-- loops
pub least_of_stmt-least_of_loop-requires : goal.least_of_stmt-least_of_loop-requires
least_of_stmt-least_of_loop-requires t c =
    let s = c.args.s.now in
    let n = c.in-Loop.local in
    let first = c.in-Loop.first in
    let test = c.in-Loop.test in
    let step = c.in-Loop.step in
    let body = c.get-in-Loop.result.now in
    let spot = c.in-Loop.spot in
    let fs = formals_in c.args.known.functions.now in
    let is = c.in-Loop.is ∙ ap (λ x. V.Loop n first test step x spot) (sym c.get-in-Loop.ensures) in
    let fit = E.loop-fits s n first test step body spot fs (λ n. true) is c.requires.fits in
    let full = U.full-Loop fs s n first test step body spot is c.requires.full in (
      omega (arith, c.decreases, ap nodes is, N.nodes-Loop n first test step body spot),
      (
        c.requires.functions,
        record {
          control = record { first = fit.first; test = fit.test; step = fit.step };
          narrow = own-narrow first fs (assigned_width (layout first.of).two_state (meaning first)) fit.first;
          turn = fit.body;
          full_control = full.0;
          full_body = full.1;
        },
      ),
    )

pub least_of_stmt-returns-in-Loop : goal.least_of_stmt-returns-in-Loop
least_of_stmt-returns-in-Loop t c =
    let s = c.args.s.now in
    let n = c.in-Loop.local in
    let first = c.in-Loop.first in
    let test = c.in-Loop.test in
    let step = c.in-Loop.step in
    let body = c.get-in-Loop.result.now in
    let spot = c.in-Loop.spot in
    let fs = formals_in c.args.known.functions.now in
    let is = c.in-Loop.is ∙ ap (λ x. V.Loop n first test step x spot) (sym c.get-in-Loop.ensures) in
    C.give-as c.least_of_loop.result c.args.known c.args.least (λ h. A.unbounded_in (control_of n first test step spot) (actions body) fs h) (λ h. unbounded_in fs h s) (λ h. C.in-Loop fs h s n first test step body spot is) c.least_of_loop.ensures

-- nothing
pub least_of_stmt-returns-in-Assign : goal.least_of_stmt-returns-in-Assign
least_of_stmt-returns-in-Assign t c = λ h sure.
    C.least-same c.args.least (unbounded_in (formals_in c.args.known.functions.now) h c.args.s.now)
    (C.in-Assign (formals_in c.args.known.functions.now) h c.args.s.now c.in-Assign.to c.in-Assign.value c.in-Assign.later c.in-Assign.spot c.in-Assign.is)

pub least_of_stmt-returns-in-Call : goal.least_of_stmt-returns-in-Call
least_of_stmt-returns-in-Call t c = λ h sure.
    C.least-same c.args.least (unbounded_in (formals_in c.args.known.functions.now) h c.args.s.now) (C.in-Call (formals_in c.args.known.functions.now) h c.args.s.now c.in-Call.function c.in-Call.actuals c.in-Call.spot c.in-Call.is)

pub least_of_stmt-returns-in-Break : goal.least_of_stmt-returns-in-Break
least_of_stmt-returns-in-Break t c = λ h sure. C.least-same c.args.least (unbounded_in (formals_in c.args.known.functions.now) h c.args.s.now) (C.in-Break (formals_in c.args.known.functions.now) h c.args.s.now c.in-Break.is)

pub least_of_stmt-returns-in-Continue : goal.least_of_stmt-returns-in-Continue
least_of_stmt-returns-in-Continue t c = λ h sure. C.least-same c.args.least (unbounded_in (formals_in c.args.known.functions.now) h c.args.s.now) (C.in-Continue (formals_in c.args.known.functions.now) h c.args.s.now c.in-Continue.is)

pub least_of_stmt-returns-in-Return : goal.least_of_stmt-returns-in-Return
least_of_stmt-returns-in-Return t c = λ h sure. C.least-same c.args.least (unbounded_in (formals_in c.args.known.functions.now) h c.args.s.now) (C.in-Return (formals_in c.args.known.functions.now) h c.args.s.now c.in-Return.is)

-- replaced calls
pub least_of_stmt-least_of_all-requires-in-Made : goal.least_of_stmt-least_of_all-requires-in-Made
least_of_stmt-least_of_all-requires-in-Made t c =
    let s = c.args.s.now in
    let ls = c.in-Made.locals in
    let ss = c.as_slice-in-Made.result.now in
    let o = c.in-Made.body in
    let fs = formals_in c.args.known.functions.now in
    let is = c.in-Made.is ∙ ap (λ x. V.Made ls x o) (sym c.as_slice-in-Made.ensures) in
    let fit = E.made-fits s ls ss o fs (λ n. true) is c.requires.fits in
    let full = U.full-Made fs s ls ss o is c.requires.full in
    (omega (arith, c.decreases, ap nodes is, N.nodes-Made ls ss o), (c.requires.functions, (fit.before.body, full.1.0)))

pub least_of_stmt-least_of_other-requires-in-Made : goal.least_of_stmt-least_of_other-requires-in-Made
least_of_stmt-least_of_other-requires-in-Made t c =
    let s = c.args.s.now in
    let ls = c.in-Made.locals in
    let ss = c.as_slice-in-Made.result.now in
    let o = c.in-Made.body in
    let fs = formals_in c.args.known.functions.now in
    let is = c.in-Made.is ∙ ap (λ x. V.Made ls x o) (sym c.as_slice-in-Made.ensures) in
    let fit = E.made-fits s ls ss o fs (λ n. true) is c.requires.fits in
    let full = U.full-Made fs s ls ss o is c.requires.full in
    (omega (arith, c.decreases, ap nodes is, N.nodes-Made ls ss o), (c.requires.functions, (fit.body, full.1.1)))

pub least_of_stmt-returns-in_ok-so_far-in-Made : goal.least_of_stmt-returns-in_ok-so_far-in-Made
least_of_stmt-returns-in_ok-so_far-in-Made t c =
    let s = c.args.s.now in
    let ls = c.in-Made.locals in
    let ss = c.as_slice-in-Made.result.now in
    let o = c.in-Made.body in
    let fs = formals_in c.args.known.functions.now in
    let is = c.in-Made.is ∙ ap (λ x. V.Made ls x o) (sym c.as_slice-in-Made.ensures) in
    C.give-two c.least_of_other-in-Made.result c.args.known c.args.least c.in_ok-so_far-in-Made.so_far (λ h. flat_map (unbounded_in fs h) ss) (λ h. flat_map (unbounded_in fs h) (those o)) (λ h. unbounded_in fs h s) (λ h. C.in-Made fs h s ls ss o is)
    c.in_ok-so_far-in-Made.ensures c.least_of_other-in-Made.ensures

-- statements in order
pub least_of_all-loop-s-init : goal.least_of_all-loop-s-init
least_of_all-loop-s-init t c = record { few = omega arith; fits = c.requires.fits; full = c.requires.full; same = λ h sure. refl }

pub least_of_all-least_of_stmt-requires : goal.least_of_all-least_of_stmt-requires
least_of_all-least_of_stmt-requires t c =
    let fs = formals_in c.args.known.functions.now in
    let ss = c.args.ss.now in
    let i = c.loop-s.s-index in
    let x = c.s-item.result in
    let here = at-front ss i x (omega arith) c.s-item.is in
    let fit = subst (λ xs. AllStmtsFit xs fs (λ n. true)) here c.loop-s.invariant.fits in
    let full = subst (λ xs. stmts_full fs xs ≡ true) here c.loop-s.invariant.full in
    (omega (arith, c.decreases, c.loop-s.invariant.few, ap (λ xs. total (map nodes xs)) here), (c.requires.functions, (fit.0, U.first-full fs x (drop (i + 1) ss) full)))

pub least_of_all-loop-s-preserved : goal.least_of_all-loop-s-preserved
least_of_all-loop-s-preserved t c =
    let fs = formals_in c.args.known.functions.now in
    let ss = c.args.ss.now in
    let i = c.loop-s.s-index in
    let x = c.s-item.result in
    let rest = drop (i + 1) ss in
    let here = at-front ss i x (omega arith) c.s-item.is in
    let full = subst (λ xs. stmts_full fs xs ≡ true) here c.loop-s.invariant.full in
    record {
      few = omega (arith, c.loop-s.invariant.few, ap (λ xs. total (map nodes xs)) here);
      fits = (subst (λ xs. AllStmtsFit xs fs (λ n. true)) here c.loop-s.invariant.fits).1;
      full = U.back-full fs (x ∷ []) rest full;
      same = λ h sure.
          C.more-least (unbounded_in fs h) c.loop-s.so_far c.in_ok-so_far.so_far c.args.least x rest (flat_map (unbounded_in fs h) ss) (c.in_ok-so_far.ensures h sure)
          (subst (λ xs. least_from c.loop-s.so_far (flat_map (unbounded_in fs h) xs) ≡ least_from c.args.least (flat_map (unbounded_in fs h) ss)) here (c.loop-s.invariant.same h sure));
    }

pub least_of_all-returns : goal.least_of_all-returns
least_of_all-returns t c = λ h sure.
    let fs = formals_in c.args.known.functions.now in
    let ss = c.args.ss.now in
    C.none-least c.loop-s.so_far c.args.least _ (flat_map (unbounded_in fs h) ss) (ap (flat_map (unbounded_in fs h)) (drop_of_length-le ss (omega arith))) (c.loop-s.invariant.same h sure)

-- items of a `case`
pub least_of_items-loop-item-init : goal.least_of_items-loop-item-init
least_of_items-loop-item-init t c = record { few = omega arith; fits = c.requires.fits; full = c.requires.full; same = λ h sure. refl }

pub least_of_items-least_of_stmt-requires : goal.least_of_items-least_of_stmt-requires
least_of_items-least_of_stmt-requires t c =
    let fs = formals_in c.args.known.functions.now in
    let is = c.args.items.now in
    let i = c.loop-item.item-index in
    let x = c.item-item.result in
    let here = at-front is i x (omega arith) c.item-item.is in
    let fit = subst (λ xs. AllItemsFit xs fs (λ n. true)) here c.loop-item.invariant.fits in
    let full = subst (λ xs. items_full fs xs ≡ true) here c.loop-item.invariant.full in
    (omega (arith, c.decreases, c.loop-item.invariant.few, N.item-nodes x, ap (λ xs. total (map item_nodes xs)) here), (c.requires.functions, (fit.0, (U.item-full fs x (drop (i + 1) is) full).1)))

pub least_of_items-loop-item-preserved : goal.least_of_items-loop-item-preserved
least_of_items-loop-item-preserved t c =
    let fs = formals_in c.args.known.functions.now in
    let is = c.args.items.now in
    let i = c.loop-item.item-index in
    let x = c.item-item.result in
    let rest = drop (i + 1) is in
    let here = at-front is i x (omega arith) c.item-item.is in
    let full = subst (λ xs. items_full fs xs ≡ true) here c.loop-item.invariant.full in
    record {
      few = omega (arith, c.loop-item.invariant.few, ap (λ xs. total (map item_nodes xs)) here);
      fits = (subst (λ xs. AllItemsFit xs fs (λ n. true)) here c.loop-item.invariant.fits).1;
      full = U.back-items fs (x ∷ []) rest full;
      same = λ h sure.
          C.more-least (unbounded_in fs h) c.loop-item.so_far c.in_ok-so_far.so_far c.args.least x.body (bodies rest) (flat_map (unbounded_in fs h) (bodies is)) (c.in_ok-so_far.ensures h sure)
          (subst (λ xs. least_from c.loop-item.so_far (flat_map (unbounded_in fs h) (bodies xs)) ≡ least_from c.args.least (flat_map (unbounded_in fs h) (bodies is))) here (c.loop-item.invariant.same h sure));
    }

pub least_of_items-returns : goal.least_of_items-returns
least_of_items-returns t c = λ h sure.
    let fs = formals_in c.args.known.functions.now in
    let is = c.args.items.now in
    C.none-least c.loop-item.so_far c.args.least _ (flat_map (unbounded_in fs h) (bodies is)) (ap (λ xs. flat_map (unbounded_in fs h) (bodies xs)) (drop_of_length-le is (omega arith))) (c.loop-item.invariant.same h sure)

-- what may be left out
pub least_of_other-least_of_stmt-requires : goal.least_of_other-least_of_stmt-requires
least_of_other-least_of_stmt-requires t c =
    let fs = formals_in c.args.known.functions.now in
    let is = c.in-Some.is ∙ ap Some (sym c.get.ensures) in (
      omega (arith, c.decreases, ap perhaps_nodes is),
      (c.requires.functions, (subst (λ o. PerhapsFits o fs (λ n. true)) is c.requires.fits, subst (λ o. perhaps_full fs o ≡ true) is c.requires.full)),
    )

pub least_of_other-returns-in-None : goal.least_of_other-returns-in-None
least_of_other-returns-in-None t c = λ h sure.
    let fs = formals_in c.args.known.functions.now in
    C.least-same c.args.least (flat_map (unbounded_in fs h) (those c.args.s.now)) (sym (ap (λ o. flat_map (unbounded_in fs h) (those o)) c.in-None.is))

pub least_of_other-returns-in-Some : goal.least_of_other-returns-in-Some
least_of_other-returns-in-Some t c =
    let fs = formals_in c.args.known.functions.now in
    let s = c.get.result.now in
    let is = c.in-Some.is ∙ ap Some (sym c.get.ensures) in
    C.give-as c.least_of_stmt.result c.args.known c.args.least (λ h. unbounded_in fs h s) (λ h. flat_map (unbounded_in fs h) (those c.args.s.now))
    (λ h. sym (C.end-append (unbounded_in fs h s)) ∙ sym (ap (λ o. flat_map (unbounded_in fs h) (those o)) is)) c.least_of_stmt.ensures

-- a loop
pub least_of_loop-returns : goal.least_of_loop-returns
least_of_loop-returns t c =
    let k = c.args.known in
    let inside : Known = record { functions = k.functions; locals = k.locals; variables = c.as_slice.result } in
    C.give-loop c.least_of_stmt.result c.args.at c.args.control c.args.body.now (formals_in k.functions.now) k inside c.variable_in.result c.in_ok-bounded.bounded c.args.least c.unless.result
    c.variable_in.ensures (c.as_slice.ensures.value ∙ c.in_ok-variables.ensures) (c.in_ok-bounded.ensures c.args.at) c.unless.ensures c.least_of_stmt.ensures
