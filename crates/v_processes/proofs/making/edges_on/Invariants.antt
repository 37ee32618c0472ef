use Rattle.std.proofs.Common.{◌≡◌, ◌++◌, map, drop}
use Rattle.v_meaning.specs.Modules.{edge_on}
use Rattle.v_eval.specs.Scopes.{scope_of}
use Rattle.v_processes.specs.Processes.{edge_of}
use Rattle.v_processes.proofs.making.edges_on.Given as goal

abbrev pub invariant-loop-edge : goal.invariant-loop-edge
invariant-loop-edge l = map edge_of l.made ++ map (edge_on (scope_of l.scope)) (drop l.edge-index l.edges) ≡ map (edge_on (scope_of l.fn.scope)) l.fn.edges
