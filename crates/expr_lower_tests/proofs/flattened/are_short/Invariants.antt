use Rattle.std.proofs.Common.{drop}
use Rattle.path_walk.specs.Indices.{AllShort}
use Rattle.expr_lower_tests.proofs.flattened.are_short.Given as goal

abbrev pub invariant-loop-index : goal.invariant-loop-index
invariant-loop-index l = AllShort (drop l.index-index l.indices) → AllShort l.indices
