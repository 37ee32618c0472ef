use Rattle.std.proofs.Common.{◌≡◌, List, ℕ, drop}
use Rattle.std.specs.List.{list_all}
use Rattle.sv2v_top.specs.source.Rules.{item_is_built_among}
use Rattle.sv2v_top.specs.source.Lookup.{Numbers}
use Rattle.sv2v_top.proofs.elab_build.rules.items_are_built.Given as goal

abbrev pub invariant-loop-item : goal.invariant-loop-item
invariant-loop-item l = (ns is ws : List (List ℕ)) → Numbers l.tables.names.now ns → Numbers l.tables.inputs.now is → Numbers l.tables.written.now ws
    → list_all (item_is_built_among l.tables.signals.now ns is ws) (drop l.item-index l.items) ≡ list_all (item_is_built_among l.tables.signals.now ns is ws) l.items
