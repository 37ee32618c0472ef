use Rattle.std.proofs.Common.{◌≡◌, ◌++◌, ◌∷◌, map, drop}
use Rattle.expr_build.specs.Expressions.{dimension_of, expr_of}
use Rattle.expr_build.proofs.types.dims_behind.Given as goal

abbrev pub invariant-loop-tree : goal.invariant-loop-tree
invariant-loop-tree l = l.dimensions ++ map (dimension_of expr_of) (drop l.tree-index l.rest) ≡ dimension_of expr_of l.first ∷ map (dimension_of expr_of) l.rest
