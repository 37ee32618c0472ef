use Rattle.std.proofs.Common.{◌≡◌, ◌++◌, drop}
use Rattle.case_targets.proofs.indices.copies.Given as goal

abbrev pub invariant-loop-given : goal.invariant-loop-given
invariant-loop-given l = l.made ++ drop l.given-index l.indices ≡ l.indices
