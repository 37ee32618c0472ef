use Rattle.std.proofs.Common.{◌≡◌, ◌++◌, map, filter, drop}
use Rattle.sv_core.specs.declared.design.Signal.{Signal}
use Rattle.lower_design.specs.Shape.{is_port}
use Rattle.lower_design.specs.Translatable.{path_of}
use Rattle.lower_design.proofs.declare.port_names.Given as goal

abbrev pub invariant-loop-signal : goal.invariant-loop-signal
invariant-loop-signal l =
    l.names ++ map path_of (filter (λ (s : Signal). is_port s.kind) (drop l.signal-index l.signals))
    ≡ map path_of (filter (λ (s : Signal). is_port s.kind) l.signals)
