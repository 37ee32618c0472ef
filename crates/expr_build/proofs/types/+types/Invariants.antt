use Rattle.std.proofs.Common.{◌≡◌, ◌+◌, ◌*◌, ◌++◌, map, drop}
use Rattle.expr_build.specs.Types as means
use Rattle.expr_build.proofs.types.+types.Given as goal

abbrev pub invariant-members-loop-tree : goal.invariant-members-loop-tree
invariant-members-loop-tree l = l.members ++ map (means.member_of (means.type_within l.depth)) (drop l.tree-index l.trees) ≡ map (means.member_of (means.type_within l.depth)) l.trees

abbrev pub decreases-member : goal.decreases-member
decreases-member l = 8 * l.depth + 1

abbrev pub decreases-members : goal.decreases-members
decreases-members l = 8 * l.depth + 2

abbrev pub decreases-structure : goal.decreases-structure
decreases-structure l = 8 * l.depth + 3

abbrev pub decreases-aggregated : goal.decreases-aggregated
decreases-aggregated l = 8 * l.depth + 4

abbrev pub decreases-type_around : goal.decreases-type_around
decreases-type_around l = 8 * l.depth + 5

abbrev pub decreases-type_inside : goal.decreases-type_inside
decreases-type_inside l = 8 * l.depth
