use Rattle.std.proofs.Common.{◌≡◌, ◌+◌, ◌*◌, ◌++◌, map, drop}
use Rattle.sv_build.specs.Items as means
use Rattle.sv_build.proofs.items.+item.Given as goal

abbrev pub invariant-items_inside-loop-tree : goal.invariant-items_inside-loop-tree
invariant-items_inside-loop-tree l = l.items ++ map (means.item_within l.depth) (drop l.tree-index l.trees) ≡ map (means.item_within l.depth) l.trees

abbrev pub invariant-add_values-loop-tree : goal.invariant-add_values-loop-tree
invariant-add_values-loop-tree l = l.items ++ map (means.values_generate (means.item_within l.depth)) (drop l.tree-index l.trees) ≡ l.fn.first ++ map (means.values_generate (means.item_within l.depth)) l.trees

abbrev pub decreases-items_inside : goal.decreases-items_inside
decreases-items_inside l = 16 * l.depth + 1

abbrev pub decreases-generate_block : goal.decreases-generate_block
decreases-generate_block l = 16 * l.depth + 2

abbrev pub decreases-boxed_block : goal.decreases-boxed_block
decreases-boxed_block l = 16 * l.depth + 3

abbrev pub decreases-generate_else : goal.decreases-generate_else
decreases-generate_else l = 16 * l.depth + 3

abbrev pub decreases-loop_generate : goal.decreases-loop_generate
decreases-loop_generate l = 16 * l.depth + 5

abbrev pub decreases-if_generate : goal.decreases-if_generate
decreases-if_generate l = 16 * l.depth + 6

abbrev pub decreases-values_generate : goal.decreases-values_generate
decreases-values_generate l = 16 * l.depth + 3

abbrev pub decreases-default_generate : goal.decreases-default_generate
decreases-default_generate l = 16 * l.depth + 3

abbrev pub decreases-add_values : goal.decreases-add_values
decreases-add_values l = 16 * l.depth + 4

abbrev pub decreases-add_default : goal.decreases-add_default
decreases-add_default l = 16 * l.depth + 5

abbrev pub decreases-case_generate_items : goal.decreases-case_generate_items
decreases-case_generate_items l = 16 * l.depth + 6

abbrev pub decreases-case_generate : goal.decreases-case_generate
decreases-case_generate l = 16 * l.depth + 7

abbrev pub decreases-region : goal.decreases-region
decreases-region l = 16 * l.depth + 2

abbrev pub decreases-construct : goal.decreases-construct
decreases-construct l = 16 * l.depth + 9

abbrev pub decreases-item_around : goal.decreases-item_around
decreases-item_around l = 16 * l.depth + 12

abbrev pub decreases-item : goal.decreases-item
decreases-item l = 16 * l.depth
