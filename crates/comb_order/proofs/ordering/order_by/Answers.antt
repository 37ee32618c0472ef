use Rattle.std.proofs.Common.{arith, ap, length}
use Rattle.comb_order.proofs.Standing.{numbers-low}
use Rattle.comb_order.proofs.Orders.{few-footprints, solve, left-within, order-within, refuses-first, gives-order, gives-run, frees-all}
use Rattle.comb_order.proofs.ordering.order_by.Goals as goal

pub needs_of-requires : goal.needs_of-requires
needs_of-requires c = few-footprints c.args.design.now c.args.footprints.now c.requires.limits c.requires.footprints

pub peel-requires : goal.peel-requires
peel-requires c =
    let few = few-footprints c.args.design.now c.args.footprints.now c.requires.limits c.requires.footprints in
    let same = ap length c.as_slice.ensures in
    let count = c.in_ok-needs.ensures.count in
    omega (arith, few, same, count)

pub refused-requires-clause-places : goal.refused-requires-clause-places
refused-requires-clause-places c =
    left-within c.args.design.now c.args.footprints.now c.in_ok-peeled.peeled.order c.in_ok-peeled.peeled.left (solve _ _ _ _ _ _ c.requires.limits c.requires.footprints c.in_ok-needs.ensures c.as_slice.ensures c.in_ok-peeled.ensures)
    c.as_slice-left.result.now c.args.numbers.now c.as_slice-left.ensures c.requires.numbers

pub refused-requires-clause-within : goal.refused-requires-clause-within
refused-requires-clause-within c =
    numbers-low c.args.numbers.now c.args.design.now.processes _ c.requires.numbers (let same = ap length c.as_slice-then-left-gt0.ensures in omega (arith, same))

pub returns-then-left-gt0-clause-refused : goal.returns-then-left-gt0-clause-refused
returns-then-left-gt0-clause-refused c =
    refuses-first c.args.design.now c.args.footprints.now c.in_ok-peeled.peeled.order c.in_ok-peeled.peeled.left (solve _ _ _ _ _ _ c.requires.limits c.requires.footprints c.in_ok-needs.ensures c.as_slice.ensures c.in_ok-peeled.ensures)
    c.as_slice-then-left-gt0.result.now c.args.numbers.now c.as_slice-left.result.now c.in_ok-refusal.refusal c.as_slice-then-left-gt0.ensures c.requires.numbers c.as_slice-left.ensures c.in_ok-refusal.ensures

pub numbers_at-requires : goal.numbers_at-requires
numbers_at-requires c =
    order-within c.args.design.now c.args.footprints.now c.in_ok-peeled.peeled.order c.in_ok-peeled.peeled.left (solve _ _ _ _ _ _ c.requires.limits c.requires.footprints c.in_ok-needs.ensures c.as_slice.ensures c.in_ok-peeled.ensures)
    c.as_slice-2.result.now c.args.numbers.now c.as_slice-2.ensures c.requires.numbers

pub returns-clause-order : goal.returns-clause-order
returns-clause-order c =
    gives-order c.args.design.now c.args.footprints.now c.in_ok-peeled.peeled.order c.in_ok-peeled.peeled.left (solve _ _ _ _ _ _ c.requires.limits c.requires.footprints c.in_ok-needs.ensures c.as_slice.ensures c.in_ok-peeled.ensures)
    (let same = ap length c.as_slice-left.ensures in omega (arith, same, c.if-left-gt0.false)) c.args.numbers.now c.as_slice-2.result.now c.in_ok-order.order c.requires.numbers c.as_slice-2.ensures c.in_ok-order.ensures

pub returns-clause-runs : goal.returns-clause-runs
returns-clause-runs c =
    gives-run c.args.design.now c.args.footprints.now c.in_ok-peeled.peeled.order c.in_ok-peeled.peeled.left (solve _ _ _ _ _ _ c.requires.limits c.requires.footprints c.in_ok-needs.ensures c.as_slice.ensures c.in_ok-peeled.ensures)
    (let same = ap length c.as_slice-left.ensures in omega (arith, same, c.if-left-gt0.false)) c.args.numbers.now c.as_slice-2.result.now c.in_ok-order.order c.requires.numbers c.as_slice-2.ensures c.in_ok-order.ensures

pub returns-clause-none_stuck : goal.returns-clause-none_stuck
returns-clause-none_stuck c =
    frees-all c.args.design.now c.args.footprints.now c.in_ok-peeled.peeled.order c.in_ok-peeled.peeled.left (solve _ _ _ _ _ _ c.requires.limits c.requires.footprints c.in_ok-needs.ensures c.as_slice.ensures c.in_ok-peeled.ensures)
    (let same = ap length c.as_slice-left.ensures in omega (arith, same, c.if-left-gt0.false))
