use Rattle.std.proofs.Common.{◌≡◌, ◌++◌, drop, map}
use Rattle.v_rules.specs.Tables.{numbers_in}
use Rattle.v_top_rules.specs.Sums.{node_of}
use Rattle.v_top_rules.proofs.nodes.nodes_of.Given as goal

abbrev pub invariant-loop-module : goal.invariant-loop-module
invariant-loop-module l =
    l.nodes ++ map (node_of (numbers_in l.table)) (drop l.module-index l.modules) ≡ map (node_of (numbers_in l.fn.table)) l.fn.modules
