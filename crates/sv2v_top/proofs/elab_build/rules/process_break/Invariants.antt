use Rattle.std.proofs.Common.{◌≡◌, List, ℕ, [], drop}
use Rattle.sv2v_top.specs.source.Rules.{processes_break}
use Rattle.sv2v_top.specs.source.Lookup.{Numbers}
use Rattle.sv2v_top.proofs.elab_build.rules.process_break.Given as goal

abbrev pub invariant-loop-item : goal.invariant-loop-item
invariant-loop-item l = (ws : List (List ℕ)) × Numbers l.written ws × (processes_break ws (drop l.item-index l.items) ≡ processes_break [] l.items)
