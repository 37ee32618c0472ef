use Rattle.std.proofs.Common.{◌≡◌, drop}
use Rattle.name_events.specs.Types as means
use Rattle.name_events.proofs.types.enum_names.Given as goal

abbrev pub invariant-loop-name : goal.invariant-loop-name
invariant-loop-name l = means.enum_names (drop l.name-index l.names) l.to ≡ means.enum_names l.names l.fn.to
