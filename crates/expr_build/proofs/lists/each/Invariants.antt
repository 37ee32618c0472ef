use Rattle.std.proofs.Common.{◌≡◌, ◌++◌, map, drop}
use Rattle.expr_build.proofs.lists.each.Given as goal

abbrev pub invariant-loop-tree : goal.invariant-loop-tree
invariant-loop-tree g l = l.pieces ++ map g.P.Piece.value (drop l.tree-index l.trees) ≡ map g.P.Piece.value l.trees
