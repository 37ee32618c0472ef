use Rattle.std.proofs.Common.{◌≡◌, drop}
use Rattle.v_scopes.specs.Env.{found}
use Rattle.v_item_rules.specs.Processes.{edges_from, no_edges}
use Rattle.v_item_rules.proofs.processes.edges_seen.Given as goal

abbrev pub invariant-loop-edge : goal.invariant-loop-edge
invariant-loop-edge l =
    edges_from (drop l.edge-index l.edges) (found l.scope) l.start l.seen ≡ edges_from l.fn.edges (found l.fn.scope) l.fn.start no_edges
