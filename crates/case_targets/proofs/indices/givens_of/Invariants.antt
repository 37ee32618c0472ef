use Rattle.std.proofs.Common.{◌≡◌, ◌++◌, drop}
use Rattle.case_targets.specs.Naming.{givens_for}
use Rattle.case_targets.proofs.indices.givens_of.Given as goal

abbrev pub invariant-loop-index : goal.invariant-loop-index
invariant-loop-index l = l.made ++ givens_for (drop l.index-index l.indices) ≡ givens_for l.indices
