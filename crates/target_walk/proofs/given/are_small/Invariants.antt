use Rattle.std.proofs.Common.{drop}
use Rattle.target_walk.specs.Giving.{AllSmall}
use Rattle.target_walk.proofs.given.are_small.Given as goal

abbrev pub invariant-loop-given : goal.invariant-loop-given
invariant-loop-given l = AllSmall (drop l.given-index l.indices) → AllSmall l.indices
