use Rattle.std.proofs.Common.{◌≡◌}
use Rattle.package_scope.specs.Rules as means
use Rattle.package_scope.proofs.walks.routine_around.Given as goal

abbrev pub invariant-loop-left : goal.invariant-loop-left
invariant-loop-left l = means.around means.is_routine_scope l.table l.left l.scope ≡ means.routine_around l.table l.fn.scope

abbrev pub decreases-loop-left : goal.decreases-loop-left
decreases-loop-left l = l.left
