use Rattle.std.proofs.Common.{◌≡◌, ◌++◌, drop}
use Rattle.text_shape.specs.Signals.{entries}
use Rattle.text_shape.specs.Shapes.{ports_from}
use Rattle.text_shape.proofs.ports.ports_of.Given as goal

abbrev pub invariant-loop-name : goal.invariant-loop-name
invariant-loop-name l =
    l.ports ++ ports_from (entries l.signals) l.is_input (drop l.name-index l.names) ≡ ports_from (entries l.fn.signals) l.fn.is_input l.fn.names
