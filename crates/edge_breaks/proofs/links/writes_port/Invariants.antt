use Rattle.std.proofs.Common.{◌≡◌, drop}
use Rattle.edge_breaks.specs.Links as spec
use Rattle.edge_breaks.proofs.links.writes_port.Given as goal

abbrev pub invariant-loop-w : goal.invariant-loop-w
invariant-loop-w l = spec.writes_port l.port (drop l.w-index l.writes) ≡ spec.writes_port l.port l.writes
