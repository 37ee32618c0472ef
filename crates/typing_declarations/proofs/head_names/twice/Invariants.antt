use Rattle.std.proofs.Common.{◌≡◌, ◌++◌, length}
use Rattle.typing_declarations.proofs.head_names.twice.Given as goal

abbrev pub invariant-loop-value : goal.invariant-loop-value
invariant-loop-value l = record {
  first : l.list ++ l.kept ≡ l.initial.list;
  second : l.list ++ l.copies ≡ l.initial.list;
}

abbrev pub decreases-loop-value : goal.decreases-loop-value
decreases-loop-value l = length l.list
