use Rattle.std.proofs.Common.{◌≡◌, drop}
use Rattle.name_events.specs.Types as means
use Rattle.name_events.proofs.types.member_names.Given as goal

abbrev pub invariant-loop-name : goal.invariant-loop-name
invariant-loop-name l = means.member_names l.inside l.packedness (drop l.name-index l.names) l.to ≡ means.member_names l.inside l.packedness l.names l.fn.to
