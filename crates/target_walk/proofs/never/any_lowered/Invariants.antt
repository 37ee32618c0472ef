use Rattle.std.proofs.Common.{◌≡◌, drop}
use Rattle.target_walk.specs.Naming.{has_lowered}
use Rattle.target_walk.proofs.never.any_lowered.Given as goal

abbrev pub invariant-loop-given : goal.invariant-loop-given
invariant-loop-given l = has_lowered l.indices ≡ has_lowered (drop l.given-index l.indices)
