use Rattle.std.proofs.Common.{◌≡◌, false, drop}
use Rattle.name_events.specs.Items as means
use Rattle.name_events.proofs.ports.parameter_ports_in.Given as goal

abbrev pub invariant-loop-port : goal.invariant-loop-port
invariant-loop-port l = means.parameter_ports_from l.before (drop l.port-index l.list) l.to ≡ means.parameter_ports_from false l.list l.fn.to
