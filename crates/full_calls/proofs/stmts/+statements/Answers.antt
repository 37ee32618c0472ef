use Rattle.std.proofs.Common.{◌≡◌, true, refl, arith}
use Rattle.std.specs.Cmp.Derive.{both_true}
use Rattle.eval_forms.specs.Callees.{formals_in}
use Rattle.stmt_flows.specs.Full.{stmts_full, items_full}
use Rattle.expr_fits.proofs.Walks as W
use Rattle.full_calls.proofs.stmts.+statements.Goals as goal

pub are_stmts_full-loop-s-preserved : goal.are_stmts_full-loop-s-preserved
are_stmts_full-loop-s-preserved t c = W.next (λ xs. stmts_full (formals_in c.args.functions.now) xs ≡ true) c.args.ss.now c.loop-s.s-index c.s-item.result (omega arith) c.s-item.is (λ r. both_true (c.if-not-is_stmt_full.ensures) r) c.loop-s.invariant

pub are_stmts_full-returns : goal.are_stmts_full-returns
are_stmts_full-returns t c = W.done (λ xs. stmts_full (formals_in c.args.functions.now) xs ≡ true) c.args.ss.now c.loop-s.s-index (omega arith) refl c.loop-s.invariant

pub are_items_full-loop-item-preserved : goal.are_items_full-loop-item-preserved
are_items_full-loop-item-preserved t c = W.next (λ xs. items_full (formals_in c.args.functions.now) xs ≡ true) c.args.items.now c.loop-item.item-index c.item-item.result (omega arith) c.item-item.is (λ r. both_true (c.if-not-is_item_full.ensures) r) c.loop-item.invariant

pub are_items_full-returns : goal.are_items_full-returns
are_items_full-returns t c = W.done (λ xs. items_full (formals_in c.args.functions.now) xs ≡ true) c.args.items.now c.loop-item.item-index (omega arith) refl c.loop-item.invariant
