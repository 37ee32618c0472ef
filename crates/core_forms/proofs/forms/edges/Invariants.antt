use Rattle.std.proofs.Common.{◌≡◌, ◌++◌, map, drop}
use Rattle.core_forms.specs.Forms.{edge_of}
use Rattle.core_forms.proofs.forms.edges.Given as goal

abbrev pub invariant-loop-edge : goal.invariant-loop-edge
invariant-loop-edge l = l.edges ++ map edge_of (drop l.edge-index l.list) ≡ map edge_of l.list
