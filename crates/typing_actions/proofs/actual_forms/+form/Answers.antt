use Rattle.std.proofs.Common.{◌≤◌, map, sym, arith, ◌∙◌}
use Rattle.typing_operators.specs.Children.{nodes, sum}
use Rattle.typing_actions.specs.Forms.{IsConcatenation}
use Rattle.typing_actions.proofs.Counting.{false-from, nodes-at, true-from}
use Rattle.typing_actions.proofs.Forming.{there-by}
use Rattle.typing_actions.proofs.actual_forms.+form.Goals as goal

pub are_targets-is_target-requires : goal.are_targets-is_target-requires
are_targets-is_target-requires t c =
    let less : nodes c.item-item.result ≤ sum (map nodes c.args.items.now) = nodes-at c.args.items.now c.loop-item.item-index c.item-item.result c.loop-item-test.true c.item-item.is in
    omega (arith, c.decreases, less)

pub are_targets-returns-then-not-is_target : goal.are_targets-returns-then-not-is_target
are_targets-returns-then-not-is_target t c k =
    sym (c.loop-item.invariant k ∙ false-from k c.args.items.now c.loop-item.item-index c.item-item.result c.loop-item-test.true c.item-item.is (sym (c.if-not-is_target.ensures k)))

pub are_targets-loop-item-preserved : goal.are_targets-loop-item-preserved
are_targets-loop-item-preserved t c k =
    c.loop-item.invariant k ∙ true-from k c.args.items.now c.loop-item.item-index c.item-item.result c.loop-item-test.true c.item-item.is (sym (c.if-not-is_target.ensures k))

pub is_target-returns-in-Concatenation : goal.is_target-returns-in-Concatenation
is_target-returns-in-Concatenation t c k =
    let form : IsConcatenation c.in-Concatenation.field-0 c.in-Concatenation.items.now c.args.e.now = c.in-Concatenation.ensures in
    c.are_targets.ensures k ∙ sym (there-by k c.in-Concatenation.field-0 c.in-Concatenation.items.now c.args.e.now form)
