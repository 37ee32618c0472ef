use Rattle.std.proofs.Common.{◌≡◌, ◌++◌, map, drop}
use Rattle.sv2v_top.specs.source.Names.{variables}
use Rattle.sv2v_top.specs.source.Rules.{ranges_hold, signal_of}
use Rattle.sv2v_top.proofs.elab_build.signals.add_variables.Given as goal

abbrev pub invariant-loop-item : goal.invariant-loop-item
invariant-loop-item l = record {
  made : l.signals ++ map signal_of (variables (drop l.item-index l.items)) ≡ l.initial.signals ++ map signal_of (variables l.items);
  holds : ranges_hold (variables (drop l.item-index l.items)) ≡ ranges_hold (variables l.items);
}
