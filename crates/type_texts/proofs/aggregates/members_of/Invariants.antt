use Rattle.std.proofs.Common.{◌≡◌, ◌++◌, length, map, reverse}
use Rattle.expr_type.specs.Answers.{source}
use Rattle.expr_type.specs.Types.{member}
use Rattle.type_texts.proofs.aggregates.members_of.Given as goal

-- what is left, and what is made from the end on
abbrev pub invariant-loop-f : goal.invariant-loop-f
invariant-loop-f l = map (member (source l.text)) l.left ++ reverse l.made.items ≡ map (member (source l.text)) l.fn.fields

abbrev pub decreases-loop-f : goal.decreases-loop-f
decreases-loop-f l = length l.left
