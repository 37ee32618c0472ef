use Rattle.std.proofs.Common.{◌++◌, List, ℕ, map, take}
use Rattle.sv2v_top.specs.source.Statements.{word_of, targets_in}
use Rattle.sv2v_top.specs.source.Lookup.{Numbers}
use Rattle.sv2v_top.proofs.elab_build.rules.add_targets.Given as goal

abbrev pub invariant-loop-item : goal.invariant-loop-item
invariant-loop-item l = (ns : List (List ℕ)) → Numbers l.initial.names ns → Numbers l.names (ns ++ map word_of (targets_in (take l.item-index l.uses)))
