use Rattle.std.proofs.Common.{◌≡◌, ◌++◌, length, map, reverse}
use Rattle.expr_type.specs.Operators.{choice}
use Rattle.inside_types.specs.Alternatives.{alternative}
use Rattle.inside_types.proofs.alternatives.choices.Given as goal

-- what is left, and what is made from the end on
abbrev pub invariant-loop-item : goal.invariant-loop-item
invariant-loop-item l = map choice (map alternative l.left) ++ reverse l.made.items ≡ map choice (map alternative l.fn.items)

abbrev pub decreases-loop-item : goal.decreases-loop-item
decreases-loop-item l = length l.left
