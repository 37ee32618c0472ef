use Rattle.std.proofs.Common.{◌≡◌, drop}
use Rattle.name_events.specs.Types as means
use Rattle.name_events.proofs.types.last_of_dimensions.Given as goal

abbrev pub invariant-loop-dimension : goal.invariant-loop-dimension
invariant-loop-dimension l = means.last_of_dimensions l.last (drop l.dimension-index l.dimensions) ≡ means.last_of_dimensions l.before l.dimensions
