use Rattle.std.proofs.Common.{◌≡◌, drop}
use Rattle.name_events.specs.Items as means
use Rattle.name_events.proofs.ports.ports_in.Given as goal

abbrev pub invariant-loop-one : goal.invariant-loop-one
invariant-loop-one l = means.ports_from l.state (drop l.one-index l.list) l.to ≡ means.ports_from means.no_port l.list l.fn.to
