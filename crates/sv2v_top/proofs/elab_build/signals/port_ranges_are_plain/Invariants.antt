use Rattle.std.proofs.Common.{◌≡◌, None, drop}
use Rattle.built_forms.specs.declared.forms.Direction.TheVariants.{Input}
use Rattle.sv2v_top.specs.source.Names.{ports_from}
use Rattle.sv2v_top.specs.source.Rules.{ranges_are_plain}
use Rattle.sv2v_top.proofs.elab_build.signals.port_ranges_are_plain.Given as goal

abbrev pub invariant-loop-port : goal.invariant-loop-port
invariant-loop-port l = ranges_are_plain (ports_from Input l.range (drop l.port-index l.ports)) ≡ ranges_are_plain (ports_from Input None l.ports)
