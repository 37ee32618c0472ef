use Rattle.std.proofs.Common.{◌≡◌}
use Rattle.package_scope.specs.Lookup as means
use Rattle.package_scope.proofs.meaning.means.Given as goal

abbrev pub invariant-loop-left : goal.invariant-loop-left
invariant-loop-left l = means.outwards l.table l.left l.scope l.name l.token ≡ means.means l.table l.fn.scope l.name l.token

abbrev pub decreases-loop-left : goal.decreases-loop-left
decreases-loop-left l = l.left
