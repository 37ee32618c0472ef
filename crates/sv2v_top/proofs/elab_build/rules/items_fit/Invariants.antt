use Rattle.std.proofs.Common.{◌≡◌, List, ℕ, drop}
use Rattle.std.specs.List.{list_all}
use Rattle.sv2v_top.specs.source.Rules.{item_holds}
use Rattle.sv2v_top.specs.source.Lookup.{Numbers}
use Rattle.sv2v_top.proofs.elab_build.rules.items_fit.Given as goal

abbrev pub invariant-loop-item : goal.invariant-loop-item
invariant-loop-item l = (ns is : List (List ℕ)) → Numbers l.names ns → Numbers l.inputs is → list_all (item_holds ns is) (drop l.item-index l.items) ≡ list_all (item_holds ns is) l.items
