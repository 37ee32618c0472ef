use Rattle.std.proofs.Common.{◌≡◌, drop}
use Rattle.built_forms.specs.Built.{gathered, unit_of}
use Rattle.built_forms.proofs.Gathering.{behind}
use Rattle.built_forms.proofs.units.modules.Given as goal

abbrev pub invariant-loop-one : goal.invariant-loop-one
invariant-loop-one l = behind l.modules (gathered (unit_of l.tokens) (drop l.one-index l.units)) ≡ gathered (unit_of l.tokens) l.units
