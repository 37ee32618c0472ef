use Rattle.std.proofs.Common.{◌≡◌, ◌++◌, drop}
use Rattle.source_routines.specs.Texts.{texts, units_routines}
use Rattle.source_routines.proofs.walk.units.Given as goal

abbrev pub invariant-loop-one : goal.invariant-loop-one
invariant-loop-one l = texts l.to ++ units_routines (drop l.one-index l.list) ≡ texts l.initial.to ++ units_routines l.list
