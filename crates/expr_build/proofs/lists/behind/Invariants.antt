use Rattle.std.proofs.Common.{◌≡◌, ◌++◌, ◌∷◌, drop}
use Rattle.expr_build.specs.Nodes.{behind_marks}
use Rattle.expr_build.proofs.lists.behind.Given as goal

abbrev pub invariant-loop-next : goal.invariant-loop-next
invariant-loop-next g l = l.pieces ++ behind_marks g.P.Piece.value (drop l.next-index l.rest) ≡ l.fn.first ∷ behind_marks g.P.Piece.value l.rest
