use Rattle.std.proofs.Common.{◌≡◌, ◌+◌, ◌*◌, drop}
use Rattle.name_events.specs.Items as means
use Rattle.name_events.proofs.items.+item.Given as goal

abbrev pub invariant-items_with-loop-one : goal.invariant-items_with-loop-one
invariant-items_with-loop-one l =
    means.items_with (means.item_within l.depth l.inside) (drop l.one-index l.list) l.to ≡ means.items_with (means.item_within l.depth l.inside) l.list l.fn.to

abbrev pub invariant-case_generate_items-loop-one : goal.invariant-case_generate_items-loop-one
invariant-case_generate_items-loop-one l =
    means.case_generate_items (means.item_within l.depth l.inside) l.construct (drop l.one-index l.list) l.to
    ≡ means.case_generate_items (means.item_within l.depth l.inside) l.construct l.list l.fn.to

abbrev pub decreases-items_with : goal.decreases-items_with
decreases-items_with l = 8 * l.depth + 1

abbrev pub decreases-loop_block : goal.decreases-loop_block
decreases-loop_block l = 8 * l.depth + 2

abbrev pub decreases-loop_generate : goal.decreases-loop_generate
decreases-loop_generate l = 8 * l.depth + 3

abbrev pub decreases-branch : goal.decreases-branch
decreases-branch l = 8 * l.depth + 2

abbrev pub decreases-else_branch : goal.decreases-else_branch
decreases-else_branch l = 8 * l.depth + 3

abbrev pub decreases-case_generate_item : goal.decreases-case_generate_item
decreases-case_generate_item l = 8 * l.depth + 3

abbrev pub decreases-case_generate_items : goal.decreases-case_generate_items
decreases-case_generate_items l = 8 * l.depth + 4

abbrev pub decreases-item_in : goal.decreases-item_in
decreases-item_in l = 8 * l.depth + 5

abbrev pub decreases-item_around : goal.decreases-item_around
decreases-item_around l = 8 * l.depth + 6

abbrev pub decreases-item : goal.decreases-item
decreases-item l = 8 * l.depth
