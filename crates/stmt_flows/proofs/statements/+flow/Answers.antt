use Rattle.std.proofs.Common.{◌≡◌, Bool, max, ◌-◌, ◌^◌, ◌≤◌, ◌∷◌, ◌++◌, [], true, not, map, Some, Ok, Err, inl, inr, refl, arith, ap, sym, ◌∙◌, subst}
use Rattle.std.proofs.lemmas.Result.{err_from_is_err_and}
use Rattle.std.proofs.lemmas.Bool.{and_parts}
use Rattle.sv_types.specs.declared.statement.CaseItem.{CaseItem}
use Rattle.sv_types.specs.declared.statement.Stmt.TheVariants as V
use Rattle.sv_types.specs.declared.statement.Outcome.TheVariants as O
use Rattle.sv_types.specs.Layouts.{layout}
use Rattle.sv_types.specs.Meanings.{wide}
use Rattle.sv_types.specs.Operators.{assigned_width, width_of_all}
use Rattle.sv_types.specs.Expressions.{meaning}
use Rattle.sv_types.specs.Flows as F
use Rattle.sv_types.specs.declared.expression.Expr.{Expr}
use Rattle.sv_types.specs.Surroundings.{Sight}
use Rattle.sv_types.specs.Runs.{is_true}
use Rattle.flow_sets.specs.Flows.{IsFlow}
use Rattle.sv_types.specs.Flows.{Flow}
use Rattle.sv_types.specs.Statements.{doing, made, scope_flow}
use Rattle.eval_forms.specs.Callees.{formals_in}
use Rattle.eval_parts.proofs.Lists.{own-narrow}
use Rattle.eval_runs.proofs.Fits as E
use Rattle.eval_stmts.proofs.Fitting.{block-fits}
use Rattle.eval_stmts.proofs.Given.{fits-alone}
use Rattle.eval_stmts.proofs.Sizes as N
use Rattle.eval_stmts.proofs.Sizes.{nodes, item_nodes, perhaps_nodes}
use Rattle.eval_stmts.specs.Limits.{StmtFits, AllStmtsFit, AllItemsFit, PerhapsFits, perhaps}
use Rattle.eval_stmts.specs.Targets.{values_of}
use Rattle.expr_flows.specs.Full.{is_full, all_full}
use Rattle.expr_flows.specs.Known.{sight, sight_in}
use Rattle.part_flows.specs.Values.{TestIs}
use Rattle.stmt_flows.specs.Full.{stmt_full, stmts_full, items_full, perhaps_full, written_starts}
use Rattle.stmt_flows.specs.Gives.{FoundGives, flows_of, perhaps_flow, item_flows, no_token}
use Rattle.stmt_flows.specs.Long.{LongIn, LongInOne, LongFrom, SomeHoldLong, TakesLong, Loop, those, item_bodies, item_values, entered}
use Rattle.stmt_flows.specs.Statements.{LongInIf, LongInMade, LongInLoop, if_flow, loop_flow}
use Rattle.stmt_flows.specs.Turns.{AreTurns, EnterGives, IsInside, LoopGives, TurnsGive, loop_of, variable_of, turns_of}
use Rattle.stmt_flows.proofs.FullLevels as U
use Rattle.stmt_flows.proofs.Levels as L
use Rattle.stmt_flows.proofs.Longs as G
use Rattle.stmt_flows.proofs.Nodes as M
use Rattle.stmt_flows.proofs.Passing as P
use Rattle.stmt_flows.proofs.Combining as R
use Rattle.stmt_flows.proofs.Scoping as C
use Rattle.stmt_flows.proofs.Composing as S
use Rattle.stmt_flows.proofs.Turning as T
use Rattle.stmt_flows.proofs.statements.+flow.Goals as goal

-- a test that is known
abbrev TestHere : Expr → Bool → Sight → Type 0
TestHere e b h = ((meaning e).constant h ≡ true) × (b ≡ is_true (meaning e) h.around)

-- blocks
pub stmt_flow-all_flows-requires : goal.stmt_flow-all_flows-requires
stmt_flow-all_flows-requires t c =
    let s = c.args.s.now in
    let ls = c.as_slice-locals.result.now in
    let ss = c.as_slice-body.result.now in
    let fs = formals_in c.args.known.functions.now in
    let is = c.in-Block.is ∙ ap (λ x. V.Block x c.in-Block.body) (sym c.as_slice-locals.ensures) ∙ ap (λ x. V.Block ls x) (sym c.as_slice-body.ensures) in
    let fit = block-fits s ls ss fs (λ n. true) is c.requires.fits in
    (omega (arith, c.decreases, ap nodes is, N.nodes-Block ls ss), (c.requires.functions, (fit.body, (U.full-Block fs s ls ss is c.requires.full).1)))

pub stmt_flow-returns-in_err-found-in-Block : goal.stmt_flow-returns-in_err-found-in-Block
stmt_flow-returns-in_err-found-in-Block t c =
    let p = err_from_is_err_and c.from_residual.result c.from_residual.ensures.1 in
    let s = c.args.s.now in
    let h = sight c.args.known in
    let ls = c.as_slice-locals.result.now in
    let ss = c.as_slice-body.result.now in
    let is = c.in-Block.is ∙ ap (λ x. V.Block x c.in-Block.body) (sym c.as_slice-locals.ensures) ∙ ap (λ x. V.Block ls x) (sym c.as_slice-body.ensures) in
    let body = F.in_turn (flows_of ss) in
    P.pass-on c.from_residual.result c.in_err-found-in-Block.field-0.0 c.args.counting (LongInOne h ss) (LongIn h s) (body h) ((doing s).flow h) (p.1 ∙ ap Err p.2) (G.part-Block h s ls ss is)
    (subst (λ (x : Flow). (body h).statements ≤ x.statements) (L.flow-Block s ls ss h is) (C.block-counts ls body h)) c.in_err-found-in-Block.ensures

pub stmt_flow-block_flow-requires : goal.stmt_flow-block_flow-requires
stmt_flow-block_flow-requires t c =
    let s = c.args.s.now in
    let ls = c.as_slice-locals.result.now in
    let ss = c.as_slice-body.result.now in
    let fs = formals_in c.args.known.functions.now in
    let is = c.in-Block.is ∙ ap (λ x. V.Block x c.in-Block.body) (sym c.as_slice-locals.ensures) ∙ ap (λ x. V.Block ls x) (sym c.as_slice-body.ensures) in
    let fit = block-fits s ls ss fs (λ n. true) is c.requires.fits in
    record { functions = c.requires.functions; fits = fit.locals; full = (U.full-Block fs s ls ss is c.requires.full).0; body = c.in_ok-found-in-Block.ensures.0 }

pub stmt_flow-returns-in_ok-found-in-Block : goal.stmt_flow-returns-in_ok-found-in-Block
stmt_flow-returns-in_ok-found-in-Block t c =
    let s = c.args.s.now in
    let h = sight c.args.known in
    let ls = c.as_slice-locals.result.now in
    let ss = c.as_slice-body.result.now in
    let is = c.in-Block.is ∙ ap (λ x. V.Block x c.in-Block.body) (sym c.as_slice-locals.ensures) ∙ ap (λ x. V.Block ls x) (sym c.as_slice-body.ensures) in
    let body = F.in_turn (flows_of ss) in
    P.own-gives c.block_flow.result c.args.known (written_starts ls) c.args.counting (LongIn h s) (F.counted (scope_flow ls body h)) ((doing s).flow h) (L.flow-Block s ls ss h is) (G.own-Block h s ls ss is) (c.block_flow.ensures body c.in_ok-found-in-Block.ensures.1)

-- `if`
pub stmt_flow-if_flow-requires : goal.stmt_flow-if_flow-requires
stmt_flow-if_flow-requires t c =
    let s = c.args.s.now in
    let on = c.in-If.on in
    let body = c.get.result.now in
    let other = c.in-If.other in
    let fs = formals_in c.args.known.functions.now in
    let is = c.in-If.is ∙ ap (λ x. V.If on x other) (sym c.get.ensures) in
    let fit = E.if-fits s on body other fs (λ n. true) is c.requires.fits in
    let full = U.full-If fs s on body other is c.requires.full in
    (omega (arith, c.decreases, ap nodes is, N.nodes-If on body other), (c.requires.functions, (fit.on, (full.0, (fit.body, (full.1.0, (fit.other, full.1.1)))))))

pub stmt_flow-returns-in-If : goal.stmt_flow-returns-in-If
stmt_flow-returns-in-If t c =
    let s = c.args.s.now in
    let h = sight c.args.known in
    let on = c.in-If.on in
    let body = c.get.result.now in
    let other = c.in-If.other in
    let is = c.in-If.is ∙ ap (λ x. V.If on x other) (sym c.get.ensures) in
    P.relabel c.if_flow.result c.args.counting (LongInIf h on body other) (LongIn h s) (if_flow on body other h) ((doing s).flow h) (L.flow-If s on body other h is) (G.long-If h s on body other is) c.if_flow.ensures

-- `case`
pub stmt_flow-case_branches-requires : goal.stmt_flow-case_branches-requires
stmt_flow-case_branches-requires t c =
    let s = c.args.s.now in
    let kind = c.in-Case.kind in
    let on = c.in-Case.on in
    let items = c.as_slice-items.result.now in
    let other = c.in-Case.other in
    let fs = formals_in c.args.known.functions.now in
    let is = c.in-Case.is ∙ ap (λ x. V.Case kind on x other) (sym c.as_slice-items.ensures) in
    let fit = E.case-fits s kind on items other fs (λ n. true) is c.requires.fits in
    let full = U.full-Case fs s kind on items other is c.requires.full in
    (omega (arith, c.decreases, ap nodes is, N.nodes-Case kind on items other), (c.requires.functions, (fit.items, (full.1.0, (fit.other, full.1.1)))))

pub stmt_flow-returns-in_err-branches-in-Case : goal.stmt_flow-returns-in_err-branches-in-Case
stmt_flow-returns-in_err-branches-in-Case t c =
    let p = err_from_is_err_and c.from_residual-in_err-branches-in-Case.result c.from_residual-in_err-branches-in-Case.ensures.1 in
    let s = c.args.s.now in
    let h = sight c.args.known in
    let kind = c.in-Case.kind in
    let on = c.in-Case.on in
    let items = c.as_slice-items.result.now in
    let other = c.in-Case.other in
    let is = c.in-Case.is ∙ ap (λ x. V.Case kind on x other) (sym c.as_slice-items.ensures) in
    let any = F.any_of (item_flows items) (perhaps_flow other h) h in
    P.pass-on c.from_residual-in_err-branches-in-Case.result c.in_err-branches-in-Case.field-0.0 c.args.counting (LongInOne h (item_bodies items ++ those other)) (LongIn h s) any ((doing s).flow h) (p.1 ∙ ap Err p.2)
    (G.part-Case h s kind on items other is) (subst (λ (x : Flow). any.statements ≤ x.statements) (L.flow-Case s kind on items other h is) (omega arith)) c.in_err-branches-in-Case.ensures

pub stmt_flow-selected_flow-requires : goal.stmt_flow-selected_flow-requires
stmt_flow-selected_flow-requires t c =
    let s = c.args.s.now in
    let kind = c.in-Case.kind in
    let on = c.in-Case.on in
    let items = c.as_slice-items.result.now in
    let other = c.in-Case.other in
    let fs = formals_in c.args.known.functions.now in
    let is = c.in-Case.is ∙ ap (λ x. V.Case kind on x other) (sym c.as_slice-items.ensures) in
    let fit = E.case-fits s kind on items other fs (λ n. true) is c.requires.fits in
    let full = U.full-Case fs s kind on items other is c.requires.full in
    record { functions = c.requires.functions; fits = fit.on; full = full.0; full_values = U.values-full fs items full.1.0; branches = c.in_ok-branches-in-Case.ensures.0 }

pub stmt_flow-returns-in_ok-branches-in-Case : goal.stmt_flow-returns-in_ok-branches-in-Case
stmt_flow-returns-in_ok-branches-in-Case t c =
    let s = c.args.s.now in
    let h = sight c.args.known in
    let kind = c.in-Case.kind in
    let on = c.in-Case.on in
    let items = c.as_slice-items.result.now in
    let other = c.in-Case.other in
    let is = c.in-Case.is ∙ ap (λ x. V.Case kind on x other) (sym c.as_slice-items.ensures) in
    let any = F.any_of (item_flows items) (perhaps_flow other h) h in
    P.own-gives c.selected_flow.result c.args.known (on ∷ item_values items) c.args.counting (LongIn h s) (F.counted (F.and_then (F.reading ((meaning on).reads h ++ F.all_reads (values_of items) h)) any)) ((doing s).flow h)
    (L.flow-Case s kind on items other h is) (G.own-Case h s kind on items other is) (c.selected_flow.ensures any c.in_ok-branches-in-Case.ensures.1)

-- loops
pub stmt_flow-loop_flow-requires : goal.stmt_flow-loop_flow-requires
stmt_flow-loop_flow-requires t c =
    let s = c.args.s.now in
    let n = c.in-Loop.local in
    let first = c.in-Loop.first in
    let test = c.in-Loop.test in
    let step = c.in-Loop.step in
    let body = c.get-in-Loop.result.now in
    let spot = c.in-Loop.spot in
    let fs = formals_in c.args.known.functions.now in
    let is = c.in-Loop.is ∙ ap (λ x. V.Loop n first test step x spot) (sym c.get-in-Loop.ensures) in
    let fit = E.loop-fits s n first test step body spot fs (λ n. true) is c.requires.fits in
    let full = U.full-Loop fs s n first test step body spot is c.requires.full in (
      omega (arith, c.decreases, ap nodes is, N.nodes-Loop n first test step body spot),
      (
        c.requires.functions,
        record {
          control = record { first = fit.first; test = fit.test; step = fit.step };
          narrow = own-narrow first fs (assigned_width (layout first.of).two_state (meaning first)) fit.first;
          turn = fit.body;
          full_control = full.0;
          full_body = full.1;
        },
      ),
    )

pub stmt_flow-returns-in-Loop : goal.stmt_flow-returns-in-Loop
stmt_flow-returns-in-Loop t c =
    let s = c.args.s.now in
    let h = sight c.args.known in
    let n = c.in-Loop.local in
    let first = c.in-Loop.first in
    let test = c.in-Loop.test in
    let step = c.in-Loop.step in
    let body = c.get-in-Loop.result.now in
    let spot = c.in-Loop.spot in
    let is = c.in-Loop.is ∙ ap (λ x. V.Loop n first test step x spot) (sym c.get-in-Loop.ensures) in
    let l : Loop = record { variable = n; first = first; test = test; step = step; body = body } in
    P.relabel c.loop_flow.result c.args.counting (LongInLoop h l) (LongIn h s) (loop_flow l h) ((doing s).flow h) (L.flow-Loop s n first test step body spot h is) (G.long-Loop h s n first test step body spot is) c.loop_flow.ensures

-- assignments and calls
pub stmt_flow-assign_flow-requires : goal.stmt_flow-assign_flow-requires
stmt_flow-assign_flow-requires t c =
    let s = c.args.s.now in
    let to = c.as_slice-to.result.now in
    let e = c.in-Assign.value in
    let fs = formals_in c.args.known.functions.now in
    let is = c.in-Assign.is ∙ ap (λ x. V.Assign x e c.in-Assign.later c.in-Assign.spot) (sym c.as_slice-to.ensures) in
    let fit = E.assign-fits s to e c.in-Assign.later c.in-Assign.spot fs (λ n. true) is c.requires.fits in
    let full = U.full-Assign fs s to e c.in-Assign.later c.in-Assign.spot is c.requires.full in
    record { functions = c.requires.functions; targets = fit.targets; value = fits-alone e fs (max (width_of_all (map meaning to)) (wide (meaning e))) (omega arith) fit.value; full_targets = full.1; full_value = full.0 }

pub stmt_flow-returns-in_err-assigned-in-Assign : goal.stmt_flow-returns-in_err-assigned-in-Assign
stmt_flow-returns-in_err-assigned-in-Assign t c =
    let p = err_from_is_err_and c.from_residual-in_err-assigned-in-Assign.result c.from_residual-in_err-assigned-in-Assign.ensures.1 in
    let s = c.args.s.now in
    let k = c.args.known in
    let h = sight k in
    let to = c.as_slice-to.result.now in
    let e = c.in-Assign.value in
    let is = c.in-Assign.is ∙ ap (λ x. V.Assign x e c.in-Assign.later c.in-Assign.spot) (sym c.as_slice-to.ensures) in
    P.found-fails c.from_residual-in_err-assigned-in-Assign.result p.0 c.args.counting (SomeHoldLong h (e ∷ to)) (LongIn h s) ((doing s).flow h) p.1 (G.own-Assign h s to e c.in-Assign.later c.in-Assign.spot is)
    (P.some-hold c.in_err-assigned-in-Assign.field-0.0 p.0 k (e ∷ to) p.2 c.in_err-assigned-in-Assign.ensures)

pub stmt_flow-returns-in_ok-assigned-in-Assign : goal.stmt_flow-returns-in_ok-assigned-in-Assign
stmt_flow-returns-in_ok-assigned-in-Assign t c =
    let s = c.args.s.now in
    let h = sight c.args.known in
    let to = c.as_slice-to.result.now in
    let e = c.in-Assign.value in
    let is = c.in-Assign.is ∙ ap (λ x. V.Assign x e c.in-Assign.later c.in-Assign.spot) (sym c.as_slice-to.ensures) in
    let a = c.in_ok-assigned-in-Assign.ensures in
    P.relabel (Ok c.counted.result) c.args.counting (LongIn h s) (LongIn h s) (F.counted (F.assigning c.in-Assign.later (map meaning to) (meaning e) h)) ((doing s).flow h) (L.flow-Assign s to e c.in-Assign.later c.in-Assign.spot h is) (λ n l. l)
    (c.counted.ensures.known a.0, c.counted.ensures.flow (F.assigning c.in-Assign.later (map meaning to) (meaning e) h) a.1)

pub stmt_flow-call_flow-requires : goal.stmt_flow-call_flow-requires
stmt_flow-call_flow-requires t c =
    let s = c.args.s.now in
    let f = c.in-Call.function in
    let es = c.as_slice-actuals.result.now in
    let fs = formals_in c.args.known.functions.now in
    let is = c.in-Call.is ∙ ap (λ x. V.Call f x c.in-Call.spot) (sym c.as_slice-actuals.ensures) in
    let fit = E.call-fits s f es c.in-Call.spot fs (λ n. true) is c.requires.fits in
    record { functions = c.requires.functions; fits = fit.actuals; full = U.full-Call fs s f es c.in-Call.spot is c.requires.full }

pub stmt_flow-returns-in_err-called-in-Call : goal.stmt_flow-returns-in_err-called-in-Call
stmt_flow-returns-in_err-called-in-Call t c =
    let p = err_from_is_err_and c.from_residual-in_err-called-in-Call.result c.from_residual-in_err-called-in-Call.ensures.1 in
    let s = c.args.s.now in
    let k = c.args.known in
    let h = sight k in
    let f = c.in-Call.function in
    let es = c.as_slice-actuals.result.now in
    let is = c.in-Call.is ∙ ap (λ x. V.Call f x c.in-Call.spot) (sym c.as_slice-actuals.ensures) in
    P.found-fails c.from_residual-in_err-called-in-Call.result p.0 c.args.counting (SomeHoldLong h es) (LongIn h s) ((doing s).flow h) p.1 (G.own-Call h s f es c.in-Call.spot is)
    (P.some-hold c.in_err-called-in-Call.field-0.0 p.0 k es p.2 c.in_err-called-in-Call.ensures)

pub stmt_flow-returns-in_ok-called-in-Call : goal.stmt_flow-returns-in_ok-called-in-Call
stmt_flow-returns-in_ok-called-in-Call t c =
    let s = c.args.s.now in
    let h = sight c.args.known in
    let f = c.in-Call.function in
    let es = c.as_slice-actuals.result.now in
    let is = c.in-Call.is ∙ ap (λ x. V.Call f x c.in-Call.spot) (sym c.as_slice-actuals.ensures) in
    let a = c.in_ok-called-in-Call.ensures in
    P.relabel (Ok c.counted-in-Call.result) c.args.counting (LongIn h s) (LongIn h s) (F.counted (F.calling f (map meaning es) h)) ((doing s).flow h) (L.flow-Call s f es c.in-Call.spot h is) (λ n l. l)
    (c.counted-in-Call.ensures.known a.0, c.counted-in-Call.ensures.flow (F.calling f (map meaning es) h) a.1)

-- what stands for a replaced call
pub stmt_flow-made_body-requires : goal.stmt_flow-made_body-requires
stmt_flow-made_body-requires t c =
    let s = c.args.s.now in
    let ls = c.as_slice.result.now in
    let ss = c.as_slice-in-Made.result.now in
    let o = c.in-Made.body in
    let fs = formals_in c.args.known.functions.now in
    let is = c.in-Made.is ∙ ap (λ x. V.Made x c.in-Made.before o) (sym c.as_slice.ensures) ∙ ap (λ x. V.Made ls x o) (sym c.as_slice-in-Made.ensures) in
    let fit = E.made-fits s ls ss o fs (λ n. true) is c.requires.fits in
    let full = U.full-Made fs s ls ss o is c.requires.full in
    (omega (arith, c.decreases, ap nodes is, N.nodes-Made ls ss o), (c.requires.functions, (fit.before, (full.0, (full.1.0, (fit.body, full.1.1))))))

pub stmt_flow-returns-in-Made : goal.stmt_flow-returns-in-Made
stmt_flow-returns-in-Made t c =
    let s = c.args.s.now in
    let h = sight c.args.known in
    let ls = c.as_slice.result.now in
    let ss = c.as_slice-in-Made.result.now in
    let o = c.in-Made.body in
    let is = c.in-Made.is ∙ ap (λ x. V.Made x c.in-Made.before o) (sym c.as_slice.ensures) ∙ ap (λ x. V.Made ls x o) (sym c.as_slice-in-Made.ensures) in
    P.relabel c.made_body.result c.args.counting (LongInMade h ls ss o) (LongIn h s) ((made ls (map doing ss) (perhaps o)).flow h) ((doing s).flow h) (L.flow-Made s ls ss o h is) (G.long-Made h s ls ss o is) c.made_body.ensures

-- jumps
pub stmt_flow-returns-in-Break : goal.stmt_flow-returns-in-Break
stmt_flow-returns-in-Break t c =
    let s = c.args.s.now in
    let h = sight c.args.known in
    P.relabel (Ok c.counted-in-Break.result) c.args.counting (LongIn h s) (LongIn h s) (F.counted (F.jumping O.Break)) ((doing s).flow h) (L.flow-Break s h c.in-Break.is) (λ n l. l)
    (c.counted-in-Break.ensures.known c.jumping.ensures.known, c.counted-in-Break.ensures.flow _ c.jumping.ensures.flow)

pub stmt_flow-returns-in-Continue : goal.stmt_flow-returns-in-Continue
stmt_flow-returns-in-Continue t c =
    let s = c.args.s.now in
    let h = sight c.args.known in
    P.relabel (Ok c.counted-in-Continue.result) c.args.counting (LongIn h s) (LongIn h s) (F.counted (F.jumping O.Continue)) ((doing s).flow h) (L.flow-Continue s h c.in-Continue.is) (λ n l. l)
    (c.counted-in-Continue.ensures.known c.jumping-in-Continue.ensures.known, c.counted-in-Continue.ensures.flow _ c.jumping-in-Continue.ensures.flow)

pub stmt_flow-returns-in-Return : goal.stmt_flow-returns-in-Return
stmt_flow-returns-in-Return t c =
    let s = c.args.s.now in
    let h = sight c.args.known in
    P.relabel (Ok c.counted-in-Return.result) c.args.counting (LongIn h s) (LongIn h s) (F.counted (F.jumping O.Return)) ((doing s).flow h) (L.flow-Return s h c.in-Return.is) (λ n l. l)
    (c.counted-in-Return.ensures.known c.jumping-in-Return.ensures.known, c.counted-in-Return.ensures.flow _ c.jumping-in-Return.ensures.flow)

-- one that may be left out
pub perhaps_flow-stmt_flow-requires : goal.perhaps_flow-stmt_flow-requires
perhaps_flow-stmt_flow-requires t c =
    let s = c.get.result.now in
    let fs = formals_in c.args.known.functions.now in
    let is = c.in-Some.is ∙ ap Some (sym c.get.ensures) in (
      omega (arith, c.decreases, ap perhaps_nodes is),
      (c.requires.functions, (subst (λ o. PerhapsFits o fs (λ n. true)) is c.requires.fits, subst (λ o. perhaps_full fs o ≡ true) is c.requires.full)),
    )

pub perhaps_flow-returns-in-None : goal.perhaps_flow-returns-in-None
perhaps_flow-returns-in-None t c =
    let h = sight c.args.known in
    subst (λ o. FoundGives (Ok c.idle.result) c.args.counting (LongInOne h (those o)) (perhaps_flow o h)) (sym c.in-None.is) (c.idle.ensures.known, c.idle.ensures.flow)

pub perhaps_flow-returns-in-Some : goal.perhaps_flow-returns-in-Some
perhaps_flow-returns-in-Some t c =
    S.perhaps-gives c.stmt_flow.result c.args.counting (sight c.args.known) c.get.result.now c.args.s.now (c.in-Some.is ∙ ap Some (sym c.get.ensures)) c.stmt_flow.ensures

-- the parts of an `if`
pub if_flow-returns-in_err-body : goal.if_flow-returns-in_err-body
if_flow-returns-in_err-body t c =
    let p = err_from_is_err_and c.from_residual.result c.from_residual.ensures.1 in
    let h = sight c.args.known in
    let on = c.args.on.now in
    let body = c.args.body.now in
    let other = c.args.other.now in
    P.pass-on c.from_residual.result c.in_err-body.field-0.0 c.args.counting (LongIn h body) (LongInIf h on body other) ((doing body).flow h) (if_flow on body other h) (p.1 ∙ ap Err p.2) (S.if-body-long h on body other) (S.if-body-counts on body other h) c.in_err-body.ensures

pub if_flow-returns-in_err-other : goal.if_flow-returns-in_err-other
if_flow-returns-in_err-other t c =
    let p = err_from_is_err_and c.from_residual-in_err-other.result c.from_residual-in_err-other.ensures.1 in
    let h = sight c.args.known in
    let on = c.args.on.now in
    let body = c.args.body.now in
    let other = c.args.other.now in
    P.pass-on c.from_residual-in_err-other.result c.in_err-other.field-0.0 c.args.counting (LongInOne h (those other)) (LongInIf h on body other) (perhaps_flow other h) (if_flow on body other h) (p.1 ∙ ap Err p.2) (S.if-other-long h on body other)
    (S.if-other-counts on body other h) c.in_err-other.ensures

pub if_flow-branch_flow-requires : goal.if_flow-branch_flow-requires
if_flow-branch_flow-requires t c = record { functions = c.requires.functions; fits = c.requires.on; full = c.requires.on_full; body = c.in_ok-body.ensures.0; other = c.in_ok-other.ensures.0 }

pub if_flow-returns : goal.if_flow-returns
if_flow-returns t c =
    let h = sight c.args.known in
    let on = c.args.on.now in
    let body = c.args.body.now in
    let other = c.args.other.now in
    P.relabel c.branch_flow.result c.args.counting (SomeHoldLong h (on ∷ [])) (LongInIf h on body other) (if_flow on body other h) (if_flow on body other h) refl (λ n l. inl l)
    (c.branch_flow.ensures ((doing body).flow h) (perhaps_flow other h) c.in_ok-body.ensures.1 c.in_ok-other.ensures.1)

-- what stands for a replaced call
pub made_body-returns-in_err-front : goal.made_body-returns-in_err-front
made_body-returns-in_err-front t c =
    let p = err_from_is_err_and c.from_residual.result c.from_residual.ensures.1 in
    let h = sight c.args.known in
    let ls = c.args.locals.now in
    let ss = c.args.before.now in
    let o = c.args.body.now in
    P.pass-uncounted c.from_residual.result c.in_err-front.field-0.0 c.args.counting (LongInOne h ss) (LongInMade h ls ss o) (F.in_turn (flows_of ss) h) ((made ls (map doing ss) (perhaps o)).flow h) (p.1 ∙ ap Err p.2) (S.made-before-long h ls ss o)
    c.in_err-front.ensures

pub made_body-bare_made_flow-requires : goal.made_body-bare_made_flow-requires
made_body-bare_made_flow-requires t c = record { functions = c.requires.functions; fits = c.requires.fits.locals; full = c.requires.locals_full; before = c.in_ok-front.ensures.0 }

pub made_body-returns-in-None : goal.made_body-returns-in-None
made_body-returns-in-None t c =
    let h = sight c.args.known in
    let ls = c.args.locals.now in
    let ss = c.args.before.now in
    let o = c.args.body.now in
    let front = F.in_turn (flows_of ss) in
    P.own-gives c.bare_made_flow.result c.args.known (written_starts ls) c.args.counting (LongInMade h ls ss o) (F.counted (record (scope_flow ls front h) { statements = 0 })) ((made ls (map doing ss) (perhaps o)).flow h) (S.bare-made-is ls ss o h c.in-None.is)
    (λ n l. inl l) (c.bare_made_flow.ensures front c.in_ok-front.ensures.1)

pub made_body-stmt_flow-requires : goal.made_body-stmt_flow-requires
made_body-stmt_flow-requires t c =
    let fs = formals_in c.args.known.functions.now in
    let is = c.in-Some.is ∙ ap Some (sym c.get.ensures) in (
      omega (arith, c.decreases, ap perhaps_nodes is),
      (c.requires.functions, (subst (λ o. PerhapsFits o fs (λ n. true)) is c.requires.body, subst (λ o. perhaps_full fs o ≡ true) is c.requires.body_full)),
    )

pub made_body-returns-in_err-found-in-Some : goal.made_body-returns-in_err-found-in-Some
made_body-returns-in_err-found-in-Some t c =
    let p = err_from_is_err_and c.from_residual-in_err-found-in-Some.result c.from_residual-in_err-found-in-Some.ensures.1 in
    let h = sight c.args.known in
    let ls = c.args.locals.now in
    let ss = c.args.before.now in
    let o = c.args.body.now in
    let s = c.get.result.now in
    let is = c.in-Some.is ∙ ap Some (sym c.get.ensures) in
    P.pass-on c.from_residual-in_err-found-in-Some.result c.in_err-found-in-Some.field-0.0 c.args.counting (LongIn h s) (LongInMade h ls ss o) ((doing s).flow h) ((made ls (map doing ss) (perhaps o)).flow h) (p.1 ∙ ap Err p.2)
    (S.made-body-long h ls ss s o is) (S.made-counts ls ss s o h is) c.in_err-found-in-Some.ensures

pub made_body-made_flow-requires : goal.made_body-made_flow-requires
made_body-made_flow-requires t c =
    record { functions = c.requires.functions; fits = c.requires.fits.locals; full = c.requires.locals_full; before = c.in_ok-front.ensures.0; body = c.in_ok-found-in-Some.ensures.0 }

pub made_body-returns-in_ok-found-in-Some : goal.made_body-returns-in_ok-found-in-Some
made_body-returns-in_ok-found-in-Some t c =
    let h = sight c.args.known in
    let ls = c.args.locals.now in
    let ss = c.args.before.now in
    let o = c.args.body.now in
    let s = c.get.result.now in
    let is = c.in-Some.is ∙ ap Some (sym c.get.ensures) in
    let front = F.in_turn (flows_of ss) in
    P.own-gives c.made_flow.result c.args.known (written_starts ls) c.args.counting (LongInMade h ls ss o) (scope_flow ls (λ k. F.and_then (record (front k) { statements = 0 }) ((doing s).flow k)) h) ((made ls (map doing ss) (perhaps o)).flow h)
    (S.made-is ls ss s o h is) (λ n l. inl l) (c.made_flow.ensures front (doing s).flow c.in_ok-front.ensures.1 c.in_ok-found-in-Some.ensures.1)

-- the branches of a `case`
pub case_branches-returns-in_err-first : goal.case_branches-returns-in_err-first
case_branches-returns-in_err-first t c =
    let p = err_from_is_err_and c.from_residual.result c.from_residual.ensures.1 in
    let h = sight c.args.known in
    let is = c.args.items.now in
    let o = c.args.other.now in
    R.branch-fails c.from_residual.result c.in_err-first.field-0.0 c.args.counting (LongInOne h (item_bodies is)) (LongInOne h (item_bodies is ++ those o)) is (perhaps_flow o h) h (p.1 ∙ ap Err p.2) (P.front-one h (item_bodies is) (those o)) c.in_err-first.ensures

pub case_branches-returns-in_err-other : goal.case_branches-returns-in_err-other
case_branches-returns-in_err-other t c =
    let p = err_from_is_err_and c.from_residual-in_err-other.result c.from_residual-in_err-other.ensures.1 in
    let h = sight c.args.known in
    let is = c.args.items.now in
    let o = c.args.other.now in
    P.pass-on c.from_residual-in_err-other.result c.in_err-other.field-0.0 c.args.counting (LongInOne h (those o)) (LongInOne h (item_bodies is ++ those o)) (perhaps_flow o h) (F.any_of (item_flows is) (perhaps_flow o h) h) (p.1 ∙ ap Err p.2)
    (P.back-one h (item_bodies is) (those o)) (R.other-less is (perhaps_flow o h) h) c.in_err-other.ensures

pub case_branches-either-requires : goal.case_branches-either-requires
case_branches-either-requires t c = record { first = c.in_ok-first.ensures.0; other = c.in_ok-other.ensures.0 }

pub case_branches-returns : goal.case_branches-returns
case_branches-returns t c =
    let h = sight c.args.known in
    let is = c.args.items.now in
    let o = c.args.other.now in
    let some = c.in_ok-first.ensures.1 in
    P.relabel c.either.result c.args.counting no_token (LongInOne h (item_bodies is ++ those o)) (F.or_else some.flow (perhaps_flow o h)) (F.any_of (item_flows is) (perhaps_flow o h) h) (some.any (perhaps_flow o h)) (λ n l. absurd l)
    (c.either.ensures.gives some.flow (perhaps_flow o h) some.is c.in_ok-other.ensures.1)

-- loops
pub loop_flow-enter-requires : goal.loop_flow-enter-requires
loop_flow-enter-requires t c = record { functions = c.requires.functions; fits = c.requires.fits.control; narrow = c.requires.fits.narrow; full = c.requires.fits.full_control }

pub loop_flow-returns-in_err-enter : goal.loop_flow-returns-in_err-enter
loop_flow-returns-in_err-enter t c =
    let p = err_from_is_err_and c.from_residual.result c.from_residual.ensures.1 in
    let h = sight c.args.known in
    let l = loop_of c.args.control c.args.body.now in
    P.found-fails c.from_residual.result c.in_err-enter.field-0.0 c.args.counting (TakesLong h l.first) (LongInLoop h l) (loop_flow l h) (p.1 ∙ ap Err p.2) (λ n x. inl (inl x)) c.in_err-enter.ensures

pub loop_flow-whole_loop-requires : goal.loop_flow-whole_loop-requires
loop_flow-whole_loop-requires t c = record { functions = c.requires.functions; fits = c.requires.fits.control; narrow = c.requires.fits.narrow; full = c.requires.fits.full_control; turns = c.idle.ensures.known }

pub loop_flow-returns-in-None : goal.loop_flow-returns-in-None
loop_flow-returns-in-None t c =
    let h = sight c.args.known in
    let l = loop_of c.args.control c.args.body.now in
    let none = subst (λ o. EnterGives (Ok o) c.args.known c.args.control) c.in-None.is c.in_ok-enter.ensures in
    P.own-gives c.whole_loop.result c.args.known (l.first ∷ []) c.args.counting (LongInLoop h l) _ (loop_flow l h) (T.loop-unknown l h none) (λ n x. inl (inr x)) (c.whole_loop.ensures F.endless c.idle.ensures.flow)

pub loop_flow-entered_turns-requires : goal.loop_flow-entered_turns-requires
loop_flow-entered_turns-requires t c =
    let some = subst (λ o. EnterGives (Ok o) c.args.known c.args.control) c.in-Some.is c.in_ok-enter.ensures in
    (omega (arith, c.decreases), (c.requires.functions, (c.requires.fits, some.inside)))

pub loop_flow-returns-in_err-turns-in-Some : goal.loop_flow-returns-in_err-turns-in-Some
loop_flow-returns-in_err-turns-in-Some t c =
    let p = err_from_is_err_and c.from_residual-in_err-turns-in-Some.result c.from_residual-in_err-turns-in-Some.ensures.1 in
    let h = sight c.args.known in
    let b = c.args.body.now in
    let l = loop_of c.args.control b in
    let some = subst (λ o. EnterGives (Ok o) c.args.known c.args.control) c.in-Some.is c.in_ok-enter.ensures in
    let all = F.catching O.Break (turns_of l 65536 (entered l h)) in
    P.pass-on c.from_residual-in_err-turns-in-Some.result c.in_err-turns-in-Some.field-0.0 c.args.counting (LongFrom l (entered l h)) (LongInLoop h l) all (loop_flow l h) (p.1 ∙ ap Err p.2) (λ n x. inr (some.constant, x))
    (subst (λ (f : Flow). all.statements ≤ f.statements) (T.loop-known l h some.constant) (omega arith))
    (subst (λ k. FoundGives (Err c.in_err-turns-in-Some.field-0.0) c.args.counting (LongFrom l k) (F.catching O.Break (turns_of l 65536 k))) (some.sees b) c.in_err-turns-in-Some.ensures)

pub loop_flow-whole_loop-requires-in-Some : goal.loop_flow-whole_loop-requires-in-Some
loop_flow-whole_loop-requires-in-Some t c =
    record { functions = c.requires.functions; fits = c.requires.fits.control; narrow = c.requires.fits.narrow; full = c.requires.fits.full_control; turns = c.in_ok-turns-in-Some.ensures.0 }

pub loop_flow-returns-in_ok-turns-in-Some : goal.loop_flow-returns-in_ok-turns-in-Some
loop_flow-returns-in_ok-turns-in-Some t c =
    let h = sight c.args.known in
    let b = c.args.body.now in
    let l = loop_of c.args.control b in
    let some = subst (λ o. EnterGives (Ok o) c.args.known c.args.control) c.in-Some.is c.in_ok-enter.ensures in
    let all = F.catching O.Break (turns_of l 65536 (entered l h)) in
    let turns = subst (λ k. FoundGives (Ok c.in_ok-turns-in-Some.turns) c.args.counting (LongFrom l k) (F.catching O.Break (turns_of l 65536 k))) (some.sees b) c.in_ok-turns-in-Some.ensures in
    P.own-gives c.whole_loop-in-Some.result c.args.known (l.first ∷ []) c.args.counting (LongInLoop h l) _ (loop_flow l h) (T.loop-known l h some.constant) (λ n x. inl (inr x)) (c.whole_loop-in-Some.ensures all turns.1)

-- the turns of a loop
pub entered_turns-some_turns-requires : goal.entered_turns-some_turns-requires
entered_turns-some_turns-requires t c =
    (omega (arith, c.decreases), (c.requires.functions, (c.requires.fits, subst (λ vs. IsInside (variable_of c.args.control) vs) (sym c.as_slice-around.ensures.value) c.requires.inside)))

pub entered_turns-returns-in_err-turned : goal.entered_turns-returns-in_err-turned
entered_turns-returns-in_err-turned t c =
    let p = err_from_is_err_and c.from_residual.result c.from_residual.ensures.1 in
    let l = loop_of c.args.control c.args.body.now in
    let fs = c.args.known.functions.now in
    let xs = c.args.inside.locals.items in
    subst (λ vs. LoopGives c.from_residual.result c.args.counting l (sight_in fs xs vs)) c.as_slice-around.ensures.value
    (T.turned-fails c.from_residual.result c.in_err-turned.field-0.0 c.args.counting l (sight_in fs xs c.as_slice-around.result.now) _ (p.1 ∙ ap Err p.2) c.in_err-turned.ensures)

pub entered_turns-all_turns-requires : goal.entered_turns-all_turns-requires
entered_turns-all_turns-requires t c = record { functions = c.requires.functions; fits = c.requires.fits.control; full = c.requires.fits.full_control; turned = c.in_ok-turned.ensures.0 }

pub entered_turns-returns : goal.entered_turns-returns
entered_turns-returns t c =
    let b = c.args.body.now in
    let l = loop_of c.args.control b in
    let fs = c.args.known.functions.now in
    let xs = c.args.inside.locals.items in
    let ws = c.as_slice-around.result.now in
    let turned = c.in_ok-turned.turned in
    let ran = subst (λ ys. AreTurns turned.ended turned.found l 65536 (sight_in fs xs ws) (sight_in fs ys ws)) (sym c.as_slice-now.ensures.value) c.in_ok-turned.ensures.1 in
    subst (λ vs. LoopGives c.all_turns.result c.args.counting l (sight_in fs xs vs)) c.as_slice-around.ensures.value
    (T.final-gives c.all_turns.result c.args.counting l (sight_in fs xs ws) (c.all_turns.ensures b (sight_in fs xs ws) ran))

-- two halves of some turns
pub some_turns-returns-then-doublings-eq0 : goal.some_turns-returns-then-doublings-eq0
some_turns-returns-then-doublings-eq0 t c =
    subst (λ d. TurnsGive c.one_turn.result c.args.counting (loop_of c.args.control c.args.body.now) (2 ^ d) (sight_in c.args.known.functions.now c.args.locals.now.items c.args.known.variables.now) (sight_in c.args.known.functions.now c.one_turn.new.locals.items c.args.known.variables.now))
    (sym c.if-doublings-eq0.true) c.one_turn.ensures

pub some_turns-returns-in_err-first : goal.some_turns-returns-in_err-first
some_turns-returns-in_err-first t c =
    let p = err_from_is_err_and c.from_residual.result c.from_residual.ensures.1 in
    T.first-fails c.from_residual.result c.in_err-first.field-0.0 c.args.counting (loop_of c.args.control c.args.body.now) _ _ _ _ _ (p.1 ∙ ap Err p.2) (T.doubled c.args.doublings (c.args.doublings - 1) (omega arith)) c.in_err-first.ensures

pub some_turns-returns-then-first : goal.some_turns-returns-then-first
some_turns-returns-then-first t c =
    T.first-ends c.in_ok-first.first c.args.counting (loop_of c.args.control c.args.body.now) _ _ _ _ _ (T.doubled c.args.doublings (c.args.doublings - 1) (omega arith)) c.if-first.true c.in_ok-first.ensures

pub some_turns-returns-in_err-then : goal.some_turns-returns-in_err-then
some_turns-returns-in_err-then t c =
    let p = err_from_is_err_and c.from_residual-in_err-then.result c.from_residual-in_err-then.ensures.1 in
    T.then-fails c.from_residual-in_err-then.result c.in_err-then.field-0.0 c.in_ok-first.first c.args.counting (loop_of c.args.control c.args.body.now) _ _ _ _ _ (p.1 ∙ ap Err p.2) (T.doubled c.args.doublings (c.args.doublings - 1) (omega arith)) c.if-first.false c.in_ok-first.ensures
    c.in_err-then.ensures

pub some_turns-in_row-requires : goal.some_turns-in_row-requires
some_turns-in_row-requires t c = record { first = c.in_ok-first.ensures.0; then = c.in_ok-then.ensures.0 }

pub some_turns-returns-in_err-found : goal.some_turns-returns-in_err-found
some_turns-returns-in_err-found t c =
    let p = err_from_is_err_and c.from_residual-in_err-found.result c.from_residual-in_err-found.ensures.1 in
    T.join-fails c.from_residual-in_err-found.result c.in_err-found.field-0.0 c.in_ok-first.first c.in_ok-then.then c.args.counting (loop_of c.args.control c.args.body.now) _ _ _ _ _ (p.1 ∙ ap Err p.2) (T.doubled c.args.doublings (c.args.doublings - 1) (omega arith)) c.if-first.false
    c.in_ok-first.ensures c.in_ok-then.ensures c.in_err-found.ensures.gives

pub some_turns-returns : goal.some_turns-returns
some_turns-returns t c =
    T.both-done c.in_ok-first.first c.in_ok-then.then c.in_ok-found.found c.args.counting c.in_ok-then.then.ended (loop_of c.args.control c.args.body.now) _ _ _ _ _ (T.doubled c.args.doublings (c.args.doublings - 1) (omega arith)) c.if-first.false refl c.in_ok-first.ensures
    c.in_ok-then.ensures c.in_ok-found.ensures.gives

-- a turn
pub one_turn-tested-requires : goal.one_turn-tested-requires
one_turn-tested-requires t c =
    let fs = formals_in c.args.known.functions.now in
    let a = c.args.control in
    let rest = (and_parts (is_full fs a.first.now) (all_full fs (a.test.now ∷ a.step.now ∷ [])) c.requires.fits.full_control).1 in
    record { functions = c.requires.functions; fits = c.requires.fits.control.test; full = (and_parts (is_full fs a.test.now) (all_full fs (a.step.now ∷ [])) rest).0 }

pub one_turn-returns-in_err-tested : goal.one_turn-returns-in_err-tested
one_turn-returns-in_err-tested t c =
    let p = err_from_is_err_and c.from_residual.result c.from_residual.ensures.1 in
    let k = c.args.known in
    T.test-fails c.from_residual.result c.in_err-tested.field-0.0 p.0 (record { functions = k.functions; locals = c.as_slice.result; variables = k.variables }) c.args.counting (loop_of c.args.control c.args.body.now) _ _ p.1 p.2
    (ap (λ xs. sight_in k.functions.now xs k.variables.now) c.as_slice.ensures.value) c.in_err-tested.ensures

pub one_turn-returns-in-None : goal.one_turn-returns-in-None
one_turn-returns-in-None t c =
    let k = c.args.known in
    let l = loop_of c.args.control c.args.body.now in
    let e = c.args.control.test.now in
    let none = subst (λ o. TestIs o (record { functions = k.functions; locals = c.as_slice.result; variables = k.variables }) e) c.in-None.is c.in_ok-tested.ensures in
    let h = sight_in k.functions.now c.args.locals.now.items k.variables.now in
    (c.idle.ensures.known, T.unknown-ends c.idle.result l h (ap (λ xs. (meaning e).constant (sight_in k.functions.now xs k.variables.now)) (sym c.as_slice.ensures.value) ∙ none) c.idle.ensures.flow)

pub one_turn-tested_turn-requires : goal.one_turn-tested_turn-requires
one_turn-tested_turn-requires t c =
    let k = c.args.known in
    let e = c.args.control.test.now in
    let some = subst (λ o. TestIs o (record { functions = k.functions; locals = c.as_slice.result; variables = k.variables }) e) c.in-Some.is c.in_ok-tested.ensures in
    let there = subst (λ xs. TestHere e c.in-Some.goes_on (sight_in k.functions.now xs k.variables.now)) c.as_slice.ensures.value some in
    (omega (arith, c.decreases), (c.requires.functions, (c.requires.fits, (c.requires.inside, (there.0, ap not there.1)))))

pub tested_turn-returns-then-stops : goal.tested_turn-returns-then-stops
tested_turn-returns-then-stops t c =
    let l = loop_of c.args.control c.args.body.now in
    let h = sight_in c.args.known.functions.now c.args.locals.now.items c.args.known.variables.now in
    (c.idle.ensures.known, T.false-ends c.idle.result l h c.requires.test.0 (T.stops-true _ _ c.requires.test.1 c.if-stops.true) c.idle.ensures.flow)

pub tested_turn-stmt_flow-requires : goal.tested_turn-stmt_flow-requires
tested_turn-stmt_flow-requires t c = (omega (arith, c.decreases), (c.requires.functions, (c.requires.fits.turn, c.requires.fits.full_body)))

pub tested_turn-returns-in_err-found : goal.tested_turn-returns-in_err-found
tested_turn-returns-in_err-found t c =
    let p = err_from_is_err_and c.from_residual.result c.from_residual.ensures.1 in
    let k = c.args.known in
    let l = loop_of c.args.control c.args.body.now in
    let x = c.in_err-found.field-0.0 in
    let h = sight_in k.functions.now c.args.locals.now.items k.variables.now in
    T.body-fails c.from_residual.result x c.args.counting l h _ (p.1 ∙ ap Err p.2) (record { constant = c.requires.test.0; goes = T.stops-false _ _ c.requires.test.1 c.if-stops.false })
    (subst (λ xs. FoundGives (Err x) c.args.counting (LongIn (sight_in k.functions.now xs k.variables.now) l.body) ((doing l.body).flow (sight_in k.functions.now xs k.variables.now))) c.as_slice.ensures.value c.in_err-found.ensures)

pub tested_turn-catching_continues-requires : goal.tested_turn-catching_continues-requires
tested_turn-catching_continues-requires t c = c.in_ok-found.ensures.0

pub tested_turn-after_body-requires : goal.tested_turn-after_body-requires
tested_turn-after_body-requires t c =
    record { functions = c.requires.functions; fits = c.requires.fits.control; narrow = c.requires.fits.narrow; full = c.requires.fits.full_control; inside = c.requires.inside; turn = c.in_ok-turn.ensures.known }

pub tested_turn-returns : goal.tested_turn-returns
tested_turn-returns t c =
    let k = c.args.known in
    let b = c.args.body.now in
    let l = loop_of c.args.control b in
    let h = sight_in k.functions.now c.args.locals.now.items k.variables.now in
    let found = subst (λ xs. IsFlow c.in_ok-found.found ((doing b).flow (sight_in k.functions.now xs k.variables.now))) c.as_slice.ensures.value c.in_ok-found.ensures.1 in
    T.turn-done c.after_body.result c.args.counting l h _ (record { constant = c.requires.test.0; goes = T.stops-false _ _ c.requires.test.1 c.if-stops.false })
    (c.after_body.ensures b (F.catching O.Continue ((doing b).flow h)) (c.in_ok-turn.ensures.flow ((doing b).flow h) found))

-- statements in order
pub all_flows-returns-then-body-eq0 : goal.all_flows-returns-then-body-eq0
all_flows-returns-then-body-eq0 t c =
    let h = sight c.args.known in
    (c.idle.ensures.known, subst (λ xs. IsFlow c.idle.result (F.in_turn (flows_of xs) h)) (P.none-there c.args.body.now c.if-body-eq0.true) c.idle.ensures.flow)

pub all_flows-stmt_flow-requires : goal.all_flows-stmt_flow-requires
all_flows-stmt_flow-requires t c =
    let fs = formals_in c.args.known.functions.now in
    let ss = c.args.body.now in
    let s = c.index-body-0.result in
    let one = P.one-there ss s c.if-body-eq1.true c.index-body-0.is in (
      omega (arith, c.decreases, M.one-stmt ss s c.if-body-eq1.true c.index-body-0.is),
      (c.requires.functions, ((subst (λ xs. AllStmtsFit xs fs (λ n. true)) (sym one) c.requires.fits).0, U.first-full fs s [] (subst (λ xs. stmts_full fs xs ≡ true) (sym one) c.requires.full))),
    )

pub all_flows-returns-then-body-eq1 : goal.all_flows-returns-then-body-eq1
all_flows-returns-then-body-eq1 t c =
    let h = sight c.args.known in
    let ss = c.args.body.now in
    let s = c.index-body-0.result in
    let one = P.one-there ss s c.if-body-eq1.true c.index-body-0.is in
    P.relabel c.stmt_flow.result c.args.counting (LongIn h s) (LongInOne h ss) ((doing s).flow h) (F.in_turn (flows_of ss) h) (R.row-one s h ∙ ap (λ xs. F.in_turn (flows_of xs) h) one)
    (λ n l. subst (λ xs. LongInOne h xs n) one (P.this-one h s [] n l)) c.stmt_flow.ensures

pub all_flows-all_flows-requires : goal.all_flows-all_flows-requires
all_flows-all_flows-requires t c =
    let fs = formals_in c.args.known.functions.now in
    let ss = c.args.body.now in
    let a = c.split_at.result.0.now in
    let b = c.split_at.result.1.now in
    let parts = P.parted _ ss a b c.split_at.ensures.front c.split_at.ensures.back in
    let la = P.front-some _ ss a c.split_at.ensures.front (omega arith) (omega arith) in
    let lb = P.back-some _ ss b c.split_at.ensures.back (omega arith) in (
      omega (arith, c.decreases, (M.stmt-halves a b ss parts la lb).0),
      (
        c.requires.functions,
        (R.front-stmts a b fs (λ n. true) (subst (λ xs. AllStmtsFit xs fs (λ n. true)) (sym parts) c.requires.fits), U.front-full fs a b (subst (λ xs. stmts_full fs xs ≡ true) (sym parts) c.requires.full)),
      ),
    )

pub all_flows-returns-in_err-first : goal.all_flows-returns-in_err-first
all_flows-returns-in_err-first t c =
    let p = err_from_is_err_and c.from_residual.result c.from_residual.ensures.1 in
    let h = sight c.args.known in
    let ss = c.args.body.now in
    let a = c.split_at.result.0.now in
    let b = c.split_at.result.1.now in
    let parts = P.parted _ ss a b c.split_at.ensures.front c.split_at.ensures.back in
    let all = R.row-append a b h ∙ ap (λ xs. F.in_turn (flows_of xs) h) parts in
    P.pass-on c.from_residual.result c.in_err-first.field-0.0 c.args.counting (LongInOne h a) (LongInOne h ss) (F.in_turn (flows_of a) h) (F.in_turn (flows_of ss) h) (p.1 ∙ ap Err p.2)
    (λ n l. subst (λ xs. LongInOne h xs n) parts (P.front-one h a b n l)) (subst (λ (f : Flow). (F.in_turn (flows_of a) h).statements ≤ f.statements) all (omega arith)) c.in_err-first.ensures

pub all_flows-all_flows-requires-2 : goal.all_flows-all_flows-requires-2
all_flows-all_flows-requires-2 t c =
    let fs = formals_in c.args.known.functions.now in
    let ss = c.args.body.now in
    let a = c.split_at.result.0.now in
    let b = c.split_at.result.1.now in
    let parts = P.parted _ ss a b c.split_at.ensures.front c.split_at.ensures.back in
    let la = P.front-some _ ss a c.split_at.ensures.front (omega arith) (omega arith) in
    let lb = P.back-some _ ss b c.split_at.ensures.back (omega arith) in (
      omega (arith, c.decreases, (M.stmt-halves a b ss parts la lb).1),
      (
        c.requires.functions,
        (R.back-stmts a b fs (λ n. true) (subst (λ xs. AllStmtsFit xs fs (λ n. true)) (sym parts) c.requires.fits), U.back-full fs a b (subst (λ xs. stmts_full fs xs ≡ true) (sym parts) c.requires.full)),
      ),
    )

pub all_flows-returns-in_err-then : goal.all_flows-returns-in_err-then
all_flows-returns-in_err-then t c =
    let p = err_from_is_err_and c.from_residual-in_err-then.result c.from_residual-in_err-then.ensures.1 in
    let h = sight c.args.known in
    let ss = c.args.body.now in
    let a = c.split_at.result.0.now in
    let b = c.split_at.result.1.now in
    let parts = P.parted _ ss a b c.split_at.ensures.front c.split_at.ensures.back in
    let all = R.row-append a b h ∙ ap (λ xs. F.in_turn (flows_of xs) h) parts in
    P.pass-on c.from_residual-in_err-then.result c.in_err-then.field-0.0 c.args.counting (LongInOne h b) (LongInOne h ss) (F.in_turn (flows_of b) h) (F.in_turn (flows_of ss) h) (p.1 ∙ ap Err p.2)
    (λ n l. subst (λ xs. LongInOne h xs n) parts (P.back-one h a b n l)) (subst (λ (f : Flow). (F.in_turn (flows_of b) h).statements ≤ f.statements) all (omega arith)) c.in_err-then.ensures

pub all_flows-in_row-requires : goal.all_flows-in_row-requires
all_flows-in_row-requires t c = record { first = c.in_ok-first.ensures.0; then = c.in_ok-then.ensures.0 }

pub all_flows-returns : goal.all_flows-returns
all_flows-returns t c =
    let h = sight c.args.known in
    let ss = c.args.body.now in
    let a = c.split_at.result.0.now in
    let b = c.split_at.result.1.now in
    let parts = P.parted _ ss a b c.split_at.ensures.front c.split_at.ensures.back in
    let fa = F.in_turn (flows_of a) h in
    let fb = F.in_turn (flows_of b) h in
    P.relabel c.in_row.result c.args.counting no_token (LongInOne h ss) (F.and_then fa fb) (F.in_turn (flows_of ss) h) (R.row-append a b h ∙ ap (λ xs. F.in_turn (flows_of xs) h) parts) (λ n l. absurd l)
    (c.in_row.ensures.gives fa fb c.in_ok-first.ensures.1 c.in_ok-then.ensures.1)

-- the items of a `case`
pub items_flow-stmt_flow-requires : goal.items_flow-stmt_flow-requires
items_flow-stmt_flow-requires t c =
    let fs = formals_in c.args.known.functions.now in
    let is = c.args.items.now in
    let i = c.index-items-0.result in
    let one = P.one-there is i c.if-items-eq1.true c.index-items-0.is in (
      omega (arith, c.decreases, M.one-item is i c.if-items-eq1.true c.index-items-0.is, ap (λ (x : CaseItem). nodes x.body) c.index-items-0.is),
      (
        c.requires.functions,
        (
          subst (λ (x : CaseItem). StmtFits x.body fs (λ n. true)) c.index-items-0.is (subst (λ xs. AllItemsFit xs fs (λ n. true)) (sym one) c.requires.fits).0,
          subst (λ (x : CaseItem). stmt_full fs x.body ≡ true) c.index-items-0.is (U.item-full fs i [] (subst (λ xs. items_full fs xs ≡ true) (sym one) c.requires.full)).1,
        ),
      ),
    )

pub items_flow-returns-then-items-eq1 : goal.items_flow-returns-then-items-eq1
items_flow-returns-then-items-eq1 t c =
    let h = sight c.args.known in
    let is = c.args.items.now in
    let i = c.index-items-0.result in
    let one = P.one-there is i c.if-items-eq1.true c.index-items-0.is in
    R.any-one c.stmt_flow.result c.args.counting (LongIn h i.body) (LongInOne h (item_bodies is)) i is h one (λ n l. subst (λ xs. LongInOne h (item_bodies xs) n) one (P.this-one h i.body [] n l))
    (subst (λ (x : CaseItem). FoundGives c.stmt_flow.result c.args.counting (LongIn h x.body) ((doing x.body).flow h)) (sym c.index-items-0.is) c.stmt_flow.ensures)

pub items_flow-items_flow-requires : goal.items_flow-items_flow-requires
items_flow-items_flow-requires t c =
    let fs = formals_in c.args.known.functions.now in
    let is = c.args.items.now in
    let a = c.split_at.result.0.now in
    let b = c.split_at.result.1.now in
    let parts = P.parted _ is a b c.split_at.ensures.front c.split_at.ensures.back in
    let la = P.front-some _ is a c.split_at.ensures.front (omega arith) (omega arith) in
    let lb = P.back-some _ is b c.split_at.ensures.back (omega arith) in (
      omega (arith, c.decreases, (M.item-halves a b is parts la lb).0),
      (
        c.requires.functions,
        (R.front-items a b fs (λ n. true) (subst (λ xs. AllItemsFit xs fs (λ n. true)) (sym parts) c.requires.fits), (U.front-items fs a b (subst (λ xs. items_full fs xs ≡ true) (sym parts) c.requires.full), la)),
      ),
    )

pub items_flow-returns-in_err-first : goal.items_flow-returns-in_err-first
items_flow-returns-in_err-first t c =
    let p = err_from_is_err_and c.from_residual.result c.from_residual.ensures.1 in
    let h = sight c.args.known in
    let is = c.args.items.now in
    let a = c.split_at.result.0.now in
    let b = c.split_at.result.1.now in
    let parts = P.parted _ is a b c.split_at.ensures.front c.split_at.ensures.back in
    R.any-first-fails c.from_residual.result c.in_err-first.field-0.0 c.args.counting (LongInOne h (item_bodies a)) (LongInOne h (item_bodies is)) a b is h (p.1 ∙ ap Err p.2) parts
    (λ n l. subst (λ xs. LongInOne h (item_bodies xs) n) parts (R.front-bodies h a b n l)) c.in_err-first.ensures

pub items_flow-items_flow-requires-2 : goal.items_flow-items_flow-requires-2
items_flow-items_flow-requires-2 t c =
    let fs = formals_in c.args.known.functions.now in
    let is = c.args.items.now in
    let a = c.split_at.result.0.now in
    let b = c.split_at.result.1.now in
    let parts = P.parted _ is a b c.split_at.ensures.front c.split_at.ensures.back in
    let la = P.front-some _ is a c.split_at.ensures.front (omega arith) (omega arith) in
    let lb = P.back-some _ is b c.split_at.ensures.back (omega arith) in (
      omega (arith, c.decreases, (M.item-halves a b is parts la lb).1),
      (
        c.requires.functions,
        (R.back-items a b fs (λ n. true) (subst (λ xs. AllItemsFit xs fs (λ n. true)) (sym parts) c.requires.fits), (U.back-items fs a b (subst (λ xs. items_full fs xs ≡ true) (sym parts) c.requires.full), lb)),
      ),
    )

pub items_flow-returns-in_err-then : goal.items_flow-returns-in_err-then
items_flow-returns-in_err-then t c =
    let p = err_from_is_err_and c.from_residual-in_err-then.result c.from_residual-in_err-then.ensures.1 in
    let h = sight c.args.known in
    let is = c.args.items.now in
    let a = c.split_at.result.0.now in
    let b = c.split_at.result.1.now in
    let parts = P.parted _ is a b c.split_at.ensures.front c.split_at.ensures.back in
    R.any-other-fails c.from_residual-in_err-then.result c.in_err-then.field-0.0 c.args.counting (LongInOne h (item_bodies b)) (LongInOne h (item_bodies is)) a b is h (p.1 ∙ ap Err p.2) parts
    (λ n l. subst (λ xs. LongInOne h (item_bodies xs) n) parts (R.back-bodies h a b n l)) c.in_err-then.ensures

pub items_flow-either-requires : goal.items_flow-either-requires
items_flow-either-requires t c = record { first = c.in_ok-first.ensures.0; other = c.in_ok-then.ensures.0 }

pub items_flow-returns : goal.items_flow-returns
items_flow-returns t c =
    let h = sight c.args.known in
    let is = c.args.items.now in
    let a = c.split_at.result.0.now in
    let b = c.split_at.result.1.now in
    let parts = P.parted _ is a b c.split_at.ensures.front c.split_at.ensures.back in
    R.any-both c.either.result c.in_ok-first.first c.in_ok-then.then c.args.counting (LongInOne h (item_bodies is)) a b is h parts c.in_ok-first.ensures.1 c.in_ok-then.ensures.1 c.either.ensures.gives

pub case_branches-returns-then-items-eq0 : goal.case_branches-returns-then-items-eq0
case_branches-returns-then-items-eq0 t c =
    let h = sight c.args.known in
    let is = c.args.items.now in
    let o = c.args.other.now in
    let none = P.none-there is c.if-items-eq0.true in
    P.relabel c.perhaps_flow.result c.args.counting (LongInOne h (those o)) (LongInOne h (item_bodies is ++ those o)) (perhaps_flow o h) (F.any_of (item_flows is) (perhaps_flow o h) h)
    (ap (λ xs. F.any_of (item_flows xs) (perhaps_flow o h) h) none) (P.back-one h (item_bodies is) (those o)) c.perhaps_flow.ensures
