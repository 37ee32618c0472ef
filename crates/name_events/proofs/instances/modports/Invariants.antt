use Rattle.std.proofs.Common.{◌≡◌, drop}
use Rattle.name_events.specs.Items as means
use Rattle.name_events.proofs.instances.modports.Given as goal

abbrev pub invariant-loop-one : goal.invariant-loop-one
invariant-loop-one l = means.modports (drop l.one-index l.list) l.to ≡ means.modports l.list l.fn.to
