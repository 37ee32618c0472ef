use Rattle.std.proofs.Common.{◌≡◌, ◌+◌, ◌*◌, ◌++◌, map, drop}
use Rattle.sv_build.specs.Statements as means
use Rattle.sv_build.proofs.statements.+statement.Given as goal

abbrev pub invariant-add_values-loop-tree : goal.invariant-add_values-loop-tree
invariant-add_values-loop-tree l = l.items ++ map (means.values_item (means.inside l.depth).stmt) (drop l.tree-index l.trees) ≡ l.fn.first ++ map (means.values_item (means.inside l.depth).stmt) l.trees

abbrev pub invariant-block_items-loop-tree : goal.invariant-block_items-loop-tree
invariant-block_items-loop-tree l = l.items ++ map (means.inside l.depth).item (drop l.tree-index l.trees) ≡ map (means.inside l.depth).item l.trees

abbrev pub decreases-boxed : goal.decreases-boxed
decreases-boxed l = 16 * l.depth + 1

abbrev pub decreases-otherwise : goal.decreases-otherwise
decreases-otherwise l = 16 * l.depth + 2

abbrev pub decreases-if_statement : goal.decreases-if_statement
decreases-if_statement l = 16 * l.depth + 5

abbrev pub decreases-values_item : goal.decreases-values_item
decreases-values_item l = 16 * l.depth + 1

abbrev pub decreases-default_item : goal.decreases-default_item
decreases-default_item l = 16 * l.depth + 1

abbrev pub decreases-add_values : goal.decreases-add_values
decreases-add_values l = 16 * l.depth + 3

abbrev pub decreases-add_default : goal.decreases-add_default
decreases-add_default l = 16 * l.depth + 4

abbrev pub decreases-case_items : goal.decreases-case_items
decreases-case_items l = 16 * l.depth + 5

abbrev pub decreases-case_statement : goal.decreases-case_statement
decreases-case_statement l = 16 * l.depth + 6

abbrev pub decreases-conditional : goal.decreases-conditional
decreases-conditional l = 16 * l.depth + 7

abbrev pub decreases-for_loop : goal.decreases-for_loop
decreases-for_loop l = 16 * l.depth + 6

abbrev pub decreases-block_items : goal.decreases-block_items
decreases-block_items l = 16 * l.depth + 2

abbrev pub decreases-block : goal.decreases-block
decreases-block l = 16 * l.depth + 3

abbrev pub decreases-statement_item : goal.decreases-statement_item
decreases-statement_item l = 16 * l.depth + 9

abbrev pub decreases-stmt_around : goal.decreases-stmt_around
decreases-stmt_around l = 16 * l.depth + 12

abbrev pub decreases-block_item_around : goal.decreases-block_item_around
decreases-block_item_around l = 16 * l.depth + 12

abbrev pub decreases-stmt : goal.decreases-stmt
decreases-stmt l = 16 * l.depth

abbrev pub decreases-block_item : goal.decreases-block_item
decreases-block_item l = 16 * l.depth
