use Rattle.std.proofs.Common.{◌≡◌, drop}
use Rattle.name_events.specs.Items as means
use Rattle.name_events.proofs.instances.instances.Given as goal

abbrev pub invariant-loop-one : goal.invariant-loop-one
invariant-loop-one l = means.instances l.of (drop l.one-index l.list) l.to ≡ means.instances l.of l.list l.fn.to
