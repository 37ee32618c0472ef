use Rattle.std.proofs.Common.{◌≡◌, is_some}
use Rattle.package_scope.specs.Rules as means
use Rattle.package_scope.proofs.walks.in_function.Given as goal

abbrev pub invariant-loop-left : goal.invariant-loop-left
invariant-loop-left l = is_some (means.around means.is_function_scope l.table l.left l.scope) ≡ means.in_function l.table l.fn.scope

abbrev pub decreases-loop-left : goal.decreases-loop-left
decreases-loop-left l = l.left
