use Rattle.std.proofs.Common.{◌≡◌, drop}
use Rattle.name_events.specs.Types as means
use Rattle.name_events.proofs.declarations.declarators.Given as goal

abbrev pub invariant-loop-one : goal.invariant-loop-one
invariant-loop-one l = means.declarators l.what (drop l.one-index l.list) l.to ≡ means.declarators l.what l.list l.fn.to
