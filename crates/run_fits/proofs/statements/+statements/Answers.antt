use Rattle.std.proofs.Common.{arith}
use Rattle.eval_forms.specs.Callees.{formals_in}
use Rattle.eval_parts.specs.Steps.{is_held}
use Rattle.eval_runs.specs.EvalStmts.{AllStmtsFit, AllItemsFit}
use Rattle.expr_fits.proofs.Walks as W
use Rattle.run_fits.proofs.statements.+statements.Goals as goal

pub all_fit-loop-s-preserved : goal.all_fit-loop-s-preserved
all_fit-loop-s-preserved t c = W.next (λ xs. AllStmtsFit xs (formals_in c.args.functions.now) (is_held c.args.held.now)) c.args.ss.now c.loop-s.s-index c.s-item.result (omega arith) c.s-item.is (λ r. (c.if-not-stmt_fits.ensures, r)) c.loop-s.invariant

pub all_fit-returns : goal.all_fit-returns
all_fit-returns t c = W.done (λ xs. AllStmtsFit xs (formals_in c.args.functions.now) (is_held c.args.held.now)) c.args.ss.now c.loop-s.s-index (omega arith) tt c.loop-s.invariant

pub items_fit-loop-item-preserved : goal.items_fit-loop-item-preserved
items_fit-loop-item-preserved t c = W.next (λ xs. AllItemsFit xs (formals_in c.args.functions.now) (is_held c.args.held.now)) c.args.items.now c.loop-item.item-index c.item-item.result (omega arith) c.item-item.is (λ r. (c.if-not-stmt_fits.ensures, r)) c.loop-item.invariant

pub items_fit-returns : goal.items_fit-returns
items_fit-returns t c = W.done (λ xs. AllItemsFit xs (formals_in c.args.functions.now) (is_held c.args.held.now)) c.args.items.now c.loop-item.item-index (omega arith) tt c.loop-item.invariant
