use Rattle.std.proofs.Common.{◌≡◌, drop}
use Rattle.name_events.specs.Types as means
use Rattle.name_events.proofs.types.+type_text.Given as goal

abbrev pub invariant-members-loop-one : goal.invariant-members-loop-one
invariant-members-loop-one l = means.members l.inside (drop l.one-index l.list) l.to ≡ means.members l.inside l.list l.fn.to
