use Rattle.std.proofs.Common.{◌≡◌, None, drop}
use Rattle.package_scope.specs.Least.{least_kept}
use Rattle.package_scope.proofs.event_breaks.kept_break.Given as goal

abbrev pub invariant-loop-at : goal.invariant-loop-at
invariant-loop-at l = least_kept l.least l.at (drop l.at l.tokens) ≡ least_kept None 0 l.tokens
