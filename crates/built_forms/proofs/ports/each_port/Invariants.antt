use Rattle.std.proofs.Common.{◌≡◌, drop}
use Rattle.built_forms.specs.Built.{each, port_of}
use Rattle.built_forms.proofs.Gathering.{behind}
use Rattle.built_forms.proofs.ports.each_port.Given as goal

abbrev pub invariant-loop-item : goal.invariant-loop-item
invariant-loop-item l = behind l.ports (each (port_of l.tokens) (drop l.item-index l.list)) ≡ each (port_of l.tokens) l.list
