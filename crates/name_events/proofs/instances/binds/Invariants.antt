use Rattle.std.proofs.Common.{◌≡◌, drop}
use Rattle.name_events.specs.Items as means
use Rattle.name_events.proofs.instances.binds.Given as goal

abbrev pub invariant-loop-one : goal.invariant-loop-one
invariant-loop-one l = means.binds (drop l.one-index l.list) l.to ≡ means.binds l.list l.fn.to
