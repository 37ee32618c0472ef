use Rattle.std.proofs.Common.{◌≡◌, ◌++◌, None, map, drop}
use Rattle.built_forms.specs.declared.forms.Direction.TheVariants.{Input}
use Rattle.sv2v_top.specs.source.Names.{ports_from}
use Rattle.sv2v_top.specs.source.Rules.{ranges_hold, signal_of}
use Rattle.sv2v_top.proofs.elab_build.signals.add_ports.Given as goal

abbrev pub invariant-loop-port : goal.invariant-loop-port
invariant-loop-port l = record {
  made : l.signals ++ map signal_of (ports_from l.direction l.range (drop l.port-index l.ports)) ≡ l.initial.signals ++ map signal_of (ports_from Input None l.ports);
  holds : ranges_hold (ports_from l.direction l.range (drop l.port-index l.ports)) ≡ ranges_hold (ports_from Input None l.ports);
}
