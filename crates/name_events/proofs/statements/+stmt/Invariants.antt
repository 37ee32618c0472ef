use Rattle.std.proofs.Common.{◌≡◌, ◌+◌, ◌*◌, drop}
use Rattle.name_events.specs.Statements as means
use Rattle.name_events.proofs.statements.+stmt.Given as goal

abbrev pub invariant-block_items-loop-item : goal.invariant-block_items-loop-item
invariant-block_items-loop-item l =
    means.block_items (means.stmt_within l.depth) l.around (drop l.item-index l.list) l.to ≡ means.block_items (means.stmt_within l.depth) l.around l.list l.fn.to

abbrev pub invariant-case_items-loop-item : goal.invariant-case_items-loop-item
invariant-case_items-loop-item l =
    means.case_items (means.stmt_within l.depth) l.around (drop l.item-index l.list) l.to ≡ means.case_items (means.stmt_within l.depth) l.around l.list l.fn.to

abbrev pub decreases-block_item : goal.decreases-block_item
decreases-block_item l = 5 * l.depth + 1

abbrev pub decreases-block_items : goal.decreases-block_items
decreases-block_items l = 5 * l.depth + 2

abbrev pub decreases-case_item : goal.decreases-case_item
decreases-case_item l = 5 * l.depth + 1

abbrev pub decreases-case_items : goal.decreases-case_items
decreases-case_items l = 5 * l.depth + 2

abbrev pub decreases-otherwise : goal.decreases-otherwise
decreases-otherwise l = 5 * l.depth + 1

abbrev pub decreases-stmt_around : goal.decreases-stmt_around
decreases-stmt_around l = 5 * l.depth + 3

abbrev pub decreases-stmt : goal.decreases-stmt
decreases-stmt l = 5 * l.depth
