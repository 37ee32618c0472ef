use Rattle.std.proofs.Common.{◌≡◌, drop}
use Rattle.stim_rows.specs.Departures as spec
use Rattle.stim_rows.proofs.departures.expected.Given as goal

abbrev pub invariant-loop-port : goal.invariant-loop-port
invariant-loop-port l = spec.expected (drop l.port-index l.inputs) l.left ≡ spec.expected l.inputs l.place
