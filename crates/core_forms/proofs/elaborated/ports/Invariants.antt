use Rattle.std.proofs.Common.{◌≡◌, ◌++◌, drop}
use Rattle.core_forms.specs.Typed.{ports_from}
use Rattle.core_forms.proofs.elaborated.ports.Given as goal

abbrev pub invariant-loop-number : goal.invariant-loop-number
invariant-loop-number l = l.ports ++ ports_from l.number (drop l.number l.list) ≡ ports_from 0 l.list
