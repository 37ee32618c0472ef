use Rattle.std.proofs.Common.{◌≡◌, drop}
use Rattle.package_scope.specs.Tables as means
use Rattle.package_scope.proofs.building.steps.Given as goal

abbrev pub invariant-loop-event : goal.invariant-loop-event
invariant-loop-event l = means.steps l.tokens (drop l.event-index l.events) l.table ≡ means.steps l.tokens l.events l.fn.table
