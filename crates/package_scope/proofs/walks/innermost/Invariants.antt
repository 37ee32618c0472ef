use Rattle.std.proofs.Common.{◌≡◌, drop}
use Rattle.package_scope.specs.Innermost.{last_holder}
use Rattle.package_scope.proofs.walks.innermost.Given as goal

abbrev pub invariant-loop-at : goal.invariant-loop-at
invariant-loop-at l = last_holder l.known l.at l.token (drop l.at l.scopes) ≡ last_holder 0 0 l.token l.scopes
