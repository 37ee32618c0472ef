use Rattle.std.proofs.Common.{◌≡◌, drop}
use Rattle.name_events.specs.Items as means
use Rattle.name_events.proofs.instances.modport_ports.Given as goal

abbrev pub invariant-loop-one : goal.invariant-loop-one
invariant-loop-one l = means.modport_ports (drop l.one-index l.list) l.to ≡ means.modport_ports l.list l.fn.to
