use Rattle.std.proofs.Common.{◌≡◌, ◌++◌, List, ℕ, drop}
use Rattle.sv2v_top.specs.source.Statements.{in_both}
use Rattle.sv2v_top.specs.source.Lookup.{Numbers}
use Rattle.sv2v_top.proofs.elab_build.rules.add_both.Given as goal

abbrev pub invariant-loop-name : goal.invariant-loop-name
invariant-loop-name l = (ns : List (List ℕ)) → Numbers l.second ns → l.to ++ in_both (drop l.name-index l.first) ns ≡ l.initial.to ++ in_both l.first ns
