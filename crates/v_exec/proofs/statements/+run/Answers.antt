use Rattle.std.proofs.Common.{rules, ◌≡◌, ◌≤◌, [], drop, map, Some, None, arith, ap, sym, ◌∙◌, subst}
use Rattle.std.proofs.Math.ListN.{drop_of_length-le}
use Rattle.v_tree.specs.declared.statements.VStmt.TheVariants as T
use Rattle.v_meaning.specs.Runs.{assign_now, cleared}
use Rattle.v_meaning.specs.Statements.{block_with, declared, doing, sequence}
use Rattle.eval_store.proofs.Storing.{on-ok}
use Rattle.v_eval.specs.Holding.{holding}
use Rattle.v_eval.specs.Names.{local_named}
use Rattle.v_eval.specs.Scopes.{scope_of, signals_of}
use Rattle.v_eval.proofs.Loops.{at-front}
use Rattle.v_run.specs.Standing.{Stands}
use Rattle.v_exec.specs.Limits.{stmt_most, most_in_turn}
use Rattle.v_exec.proofs.Running as R
use Rattle.v_exec.proofs.statements.+run.Goals as goal

pub run_all-loop-s-preserved : goal.run_all-loop-s-preserved
run_all-loop-s-preserved g t c =
    let ss = c.args.stmts.now in
    let i = c.loop-s.s-index in
    let x = c.s-item.result in
    let sc = scope_of c.args.scope in
    let front = at-front ss i x (omega arith) c.s-item.is in
    let narrow = subst (λ xs. most_in_turn (map stmt_most xs) sc ≤ 128) front c.loop-s.invariant.narrow in
    record {
      narrow = omega (arith, narrow);
      runs = λ v r st.
          (
          let before = c.loop-s.invariant.runs v r st in
          let m = before.0 in
          ((doing x).run sc v m, (c.in_ok-run_stmt.ensures v m before.1.0, subst (λ xs. (sequence (map doing xs)).run sc v m ≡ (sequence (map doing ss)).run sc v r) front before.1.1))
          );
    }

pub run_all-returns : goal.run_all-returns
run_all-returns g t c = λ v r st.
    (
    let ss = c.args.stmts.now in
    let sc = scope_of c.args.scope in
    let last = c.loop-s.invariant.runs v r st in
    let none : drop c.loop-s.s-index ss ≡ [] = drop_of_length-le ss (omega arith) in
    subst (λ m. Stands v m c.loop-s.state) (ap (λ xs. (sequence (map doing xs)).run sc v last.0) (sym none) ∙ last.1.1) last.1.0
    )

pub run_block-returns : goal.run_block-returns
run_block-returns g t c = λ v r st.
    (
    let sc = scope_of c.args.scope in
    let ls = c.args.locals.now in
    let d = sequence (map doing c.args.stmts.now) in
    let same : c.as_slice.result.now ≡ c.in_ok-own.own = search rules in
    let names = ap (map local_named) same ∙ c.in_ok-own.ensures.names in
    let inner = R.inner-scope c.as_slice.result.now c.args.scope.locals.now ls c.args.scope.next c.in_ok-number_behind.field-0 (signals_of c.args.scope) sc.callee names c.in_ok-number_behind.ensures in
    let entered = c.in_ok-own.ensures.stands v r st in
    let begins = assign_now (cleared (declared c.args.scope.next ls)) r in
    on-ok (λ h. subst (λ m. Stands v m c.run_all.new.state) (R.block-enters ls d sc _ v r inner) h) c.run_all.result (c.run_all.ensures v begins entered)
    )

pub run_stmt-returns-then-branch : goal.run_stmt-returns-then-branch
run_stmt-returns-then-branch g t c = λ v r st.
    (
    let held = holding c.args.state.now.signals.now c.args.state.now.over.items c.args.state.now.locals.items in
    on-ok
    (λ h. subst (λ m. Stands v m c.run_branch.new.state)
    (R.then-runs c.args.s.now c.in-If.on c.in-If.then c.in-If.other c.in_ok-decides-in-If.field-0 (scope_of c.args.scope) held v r c.in-If.is c.in_ok-decides-in-If.ensures c.if-branch.true st.now) h)
    c.run_branch.result (c.run_branch.ensures v r st)
    )

pub run_stmt-returns-in-None : goal.run_stmt-returns-in-None
run_stmt-returns-in-None g t c = λ v r st.
    (
    let xs = c.as_slice.result.now in
    let same : xs ≡ c.in-Block.stmts = search rules in
    let is = c.in-Block.is ∙ ap (λ l. T.Block l c.in-Block.stmts) c.in-None.is ∙ ap (T.Block None) (sym same) in
    on-ok (λ h. subst (λ m. Stands v m c.run_all.new.state) (R.block-runs c.args.s.now xs (scope_of c.args.scope) v r is) h) c.run_all.result (c.run_all.ensures v r st)
    )

pub run_stmt-returns-in-Some : goal.run_stmt-returns-in-Some
run_stmt-returns-in-Some g t c = λ v r st.
    (
    let xs = c.as_slice-in-Some.result.now in
    let same : xs ≡ c.in-Block.stmts = search rules in
    let locals : c.as_slice-locals.result.now ≡ c.in-Some.label.locals = search rules in
    let is = c.in-Block.is ∙ ap (λ l. T.Block l c.in-Block.stmts) c.in-Some.is ∙ ap (T.Block (Some c.in-Some.label)) (sym same) in
    on-ok
    (λ h. subst (λ m. Stands v m c.run_block.new.state)
    (ap (λ ls. (block_with ls (sequence (map doing xs))).run (scope_of c.args.scope) v r) locals ∙ R.named-block-runs c.args.s.now c.in-Some.label xs (scope_of c.args.scope) v r is) h)
    c.run_block.result (c.run_block.ensures v r st)
    )

pub run_stmt-returns-in-None-other : goal.run_stmt-returns-in-None-other
run_stmt-returns-in-None-other g t c = λ v r st.
    (
    let held = holding c.args.state.now.signals.now c.args.state.now.over.items c.args.state.now.locals.items in
    let is = c.in-If.is ∙ ap (T.If c.in-If.on c.in-If.then) c.in-None-other.is in
    subst (λ m. Stands v m c.args.state.now)
    (R.none-runs c.args.s.now c.in-If.on c.in-If.then c.in_ok-decides-in-If.field-0 (scope_of c.args.scope) held v r is c.in_ok-decides-in-If.ensures c.if-branch.false st.now) st
    )

pub run_stmt-returns-in-Some-other : goal.run_stmt-returns-in-Some-other
run_stmt-returns-in-Some-other g t c = λ v r st.
    (
    let held = holding c.args.state.now.signals.now c.args.state.now.over.items c.args.state.now.locals.items in
    let is = c.in-If.is ∙ ap (T.If c.in-If.on c.in-If.then) c.in-Some-other.is in
    on-ok
    (λ h. subst (λ m. Stands v m c.run_branch-in-Some-other.new.state)
    (R.else-runs c.args.s.now c.in-If.on c.in-If.then c.in-Some-other.other c.in_ok-decides-in-If.field-0 (scope_of c.args.scope) held v r is c.in_ok-decides-in-If.ensures c.if-branch.false st.now) h)
    c.run_branch-in-Some-other.result (c.run_branch-in-Some-other.ensures v r st)
    )

pub run_stmt-returns-in-Assign : goal.run_stmt-returns-in-Assign
run_stmt-returns-in-Assign g t c = λ v r st.
    on-ok (λ h. subst (λ m. Stands v m c.assignment.new.state) (R.assign-runs c.args.s.now c.in-Assign.target c.in-Assign.value c.in-Assign.later (scope_of c.args.scope) v r c.in-Assign.is) h) c.assignment.result
    (c.assignment.ensures v r st)
