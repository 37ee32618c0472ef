use Rattle.std.proofs.Common.{◌≡◌, true, map, refl, arith}
use Rattle.std.specs.Cmp.Derive.{both_true}
use Rattle.eval_forms.specs.Callees.{formals_in}
use Rattle.expr_flows.specs.Full.{every}
use Rattle.unroll_laws.specs.Passing.{all_pass_few, item_passes_few}
use Rattle.expr_fits.proofs.Walks as W
use Rattle.process_cases.proofs.Few.{by-item}
use Rattle.process_cases.proofs.passing.+passing.Goals as goal

pub all_pass_few-loop-s-preserved : goal.all_pass_few-loop-s-preserved
all_pass_few-loop-s-preserved t c = W.next (λ xs. all_pass_few (formals_in c.args.functions.now) xs ≡ true) c.args.ss.now c.loop-s.s-index c.s-item.result (omega arith) c.s-item.is (λ r. both_true (c.if-not-passes_few.ensures) r) c.loop-s.invariant

pub all_pass_few-returns : goal.all_pass_few-returns
all_pass_few-returns t c = W.done (λ xs. all_pass_few (formals_in c.args.functions.now) xs ≡ true) c.args.ss.now c.loop-s.s-index (omega arith) refl c.loop-s.invariant

pub items_pass_few-loop-item-preserved : goal.items_pass_few-loop-item-preserved
items_pass_few-loop-item-preserved t c =
    let fs = formals_in c.args.functions.now in
    W.next (λ xs. every (map (item_passes_few fs) xs) ≡ true) c.args.items.now c.loop-item.item-index c.item-item.result (omega arith) c.item-item.is (λ r. both_true (by-item fs c.item-item.result (c.if-not-passes_few.ensures)) r) c.loop-item.invariant

pub items_pass_few-returns : goal.items_pass_few-returns
items_pass_few-returns t c = W.done (λ xs. every (map (item_passes_few (formals_in c.args.functions.now)) xs) ≡ true) c.args.items.now c.loop-item.item-index (omega arith) refl c.loop-item.invariant
