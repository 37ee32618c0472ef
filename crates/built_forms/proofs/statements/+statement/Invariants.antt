use Rattle.std.proofs.Common.{◌≡◌, ◌+◌, ◌*◌, drop}
use Rattle.built_forms.specs.Built.{each, block_item_of, stmt_within}
use Rattle.built_forms.proofs.Gathering.{behind}
use Rattle.built_forms.proofs.statements.+statement.Given as goal

abbrev pub invariant-block-loop-item : goal.invariant-block-loop-item
invariant-block-loop-item l =
    behind l.statements (each (block_item_of (stmt_within l.tokens l.later l.depth)) (drop l.item-index l.list)) ≡ each (block_item_of (stmt_within l.tokens l.later l.depth)) l.list

abbrev pub decreases-block_item : goal.decreases-block_item
decreases-block_item l = 6 * l.depth + 1

abbrev pub decreases-block : goal.decreases-block
decreases-block l = 6 * l.depth + 2

abbrev pub decreases-block_alone : goal.decreases-block_alone
decreases-block_alone l = 6 * l.depth + 3

abbrev pub decreases-otherwise : goal.decreases-otherwise
decreases-otherwise l = 6 * l.depth + 1

abbrev pub decreases-conditional : goal.decreases-conditional
decreases-conditional l = 6 * l.depth + 2

abbrev pub decreases-stmt_around : goal.decreases-stmt_around
decreases-stmt_around l = 6 * l.depth + 4

abbrev pub decreases-stmt : goal.decreases-stmt
decreases-stmt l = 6 * l.depth
