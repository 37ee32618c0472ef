use Rattle.std.proofs.Common.{◌≡◌, ◌+◌, ◌++◌, ℕ, true, map, drop}
use Rattle.indexmap.specs.IndexMap.{keys}
use Rattle.v_tree.specs.Names.{distinct}
use Rattle.v_meaning.specs.Modules.{signals, numbered}
use Rattle.v_eval.specs.Names.{signal_named}
use Rattle.v_modules.specs.Named.{AllNew, counted, names_of_signals}
use Rattle.v_modules.proofs.signals.signals_of.Given as goal

abbrev pub invariant-loop-item : goal.invariant-loop-item
invariant-loop-item l = record {
  named :
      (first : ℕ) → map (signal_named first) l.signals.entries ++ numbered (first + counted l.signals) (signals (drop l.item-index l.items)) ≡ numbered first (signals l.fn.items);
  fresh : AllNew (keys l.signals) (signals (drop l.item-index l.items));
  once : distinct (names_of_signals (signals (drop l.item-index l.items))) ≡ true;
}
