use Rattle.std.proofs.Common.{◌≡◌, ◌++◌, drop}
use Rattle.source_routines.specs.Texts.{texts, items_routines, choices_routines}
use Rattle.source_routines.proofs.walk.+item.Given as goal

abbrev pub invariant-choices-loop-one : goal.invariant-choices-loop-one
invariant-choices-loop-one l = texts l.to ++ choices_routines (drop l.one-index l.list) ≡ texts l.initial.to ++ choices_routines l.list

abbrev pub invariant-items-loop-one : goal.invariant-items-loop-one
invariant-items-loop-one l = texts l.to ++ items_routines (drop l.one-index l.list) ≡ texts l.initial.to ++ items_routines l.list
