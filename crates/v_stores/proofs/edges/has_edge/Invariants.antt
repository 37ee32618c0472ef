use Rattle.std.proofs.Common.{◌≡◌, map, drop}
use Rattle.std.specs.List.{list_any}
use Rattle.round_runner.specs.Stores.{holding}
use Rattle.v_meaning.specs.Machine.{has_edge}
use Rattle.v_processes.specs.Processes.{edge_of}
use Rattle.v_stores.proofs.edges.has_edge.Given as goal

abbrev pub invariant-loop-on : goal.invariant-loop-on
invariant-loop-on l =
    list_any (has_edge (holding l.last) (holding l.now)) (map edge_of (drop l.on-index l.edges)) ≡ list_any (has_edge (holding l.fn.last) (holding l.fn.now)) (map edge_of l.fn.edges)
