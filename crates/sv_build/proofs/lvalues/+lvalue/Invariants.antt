use Rattle.std.proofs.Common.{◌≡◌, ◌+◌, ◌*◌, ◌++◌, ◌∷◌, drop}
use Rattle.expr_build.specs.Nodes.{behind_marks}
use Rattle.sv_build.specs.Statements as means
use Rattle.sv_build.proofs.lvalues.+lvalue.Given as goal

abbrev pub invariant-lvalues_behind-loop-next : goal.invariant-lvalues_behind-loop-next
invariant-lvalues_behind-loop-next l = l.lvalues ++ behind_marks (means.lvalue_with (means.concatenated_within l.depth)) (drop l.next-index l.rest) ≡ l.fn.first ∷ behind_marks (means.lvalue_with (means.concatenated_within l.depth)) l.rest

abbrev pub decreases-lvalue_inside : goal.decreases-lvalue_inside
decreases-lvalue_inside l = 8 * l.depth + 1

abbrev pub decreases-lvalues : goal.decreases-lvalues
decreases-lvalues l = 8 * l.depth + 3

abbrev pub decreases-lvalues_behind : goal.decreases-lvalues_behind
decreases-lvalues_behind l = 8 * l.depth + 2

abbrev pub decreases-lvalue_stream : goal.decreases-lvalue_stream
decreases-lvalue_stream l = 8 * l.depth + 4

abbrev pub decreases-concatenated_from : goal.decreases-concatenated_from
decreases-concatenated_from l = 8 * l.depth + 5

abbrev pub decreases-concatenated : goal.decreases-concatenated
decreases-concatenated l = 8 * l.depth
