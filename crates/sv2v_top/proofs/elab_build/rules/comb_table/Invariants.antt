use Rattle.std.proofs.Common.{take}
use Rattle.sv2v_top.specs.source.Rules.{comb_targets}
use Rattle.sv2v_top.specs.source.Lookup.{Numbers}
use Rattle.sv2v_top.proofs.elab_build.rules.comb_table.Given as goal

abbrev pub invariant-loop-item : goal.invariant-loop-item
invariant-loop-item l = Numbers l.names (comb_targets (take l.item-index l.items))
