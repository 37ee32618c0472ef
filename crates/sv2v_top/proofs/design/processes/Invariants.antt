use Rattle.std.proofs.Common.{◌≡◌, ◌++◌, List, ℕ, drop}
use Rattle.sv2v_top.specs.source.Lookup.{Numbers}
use Rattle.sv2v_top.specs.source.Elaboration.{processes_of}
use Rattle.sv2v_top.proofs.design.processes.Given as goal

abbrev pub invariant-loop-item : goal.invariant-loop-item
invariant-loop-item l = (ns : List (List ℕ)) → Numbers l.names ns → l.processes ++ processes_of ns (drop l.item-index l.items) ≡ processes_of ns l.items
