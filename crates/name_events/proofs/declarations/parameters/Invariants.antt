use Rattle.std.proofs.Common.{◌≡◌, false, drop}
use Rattle.name_events.specs.Types as means
use Rattle.name_events.proofs.declarations.parameters.Given as goal

abbrev pub invariant-loop-body : goal.invariant-loop-body
invariant-loop-body l = means.parameters l.before (drop l.body-index l.bodies) l.to ≡ means.parameters false l.bodies l.fn.to
