use Rattle.std.proofs.Common.{◌≡◌, ◌++◌, drop}
use Rattle.source_routines.specs.Texts.{texts, package_routines}
use Rattle.source_routines.proofs.walk.package_items.Given as goal

abbrev pub invariant-loop-one : goal.invariant-loop-one
invariant-loop-one l = texts l.to ++ package_routines (drop l.one-index l.list) ≡ texts l.initial.to ++ package_routines l.list
