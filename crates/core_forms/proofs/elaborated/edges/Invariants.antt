use Rattle.std.proofs.Common.{◌≡◌, ◌++◌, map, drop}
use Rattle.core_forms.specs.Typed.{typed_edge}
use Rattle.core_forms.proofs.elaborated.edges.Given as goal

abbrev pub invariant-loop-edge : goal.invariant-loop-edge
invariant-loop-edge l = l.edges ++ map typed_edge (drop l.edge-index l.list) ≡ map typed_edge l.list
