use Rattle.std.proofs.Common.{◌≡◌, ◌++◌}
use Rattle.v_build.specs.Trees.{meanings}
use Rattle.two_state.specs.Kinds.{each, matching}
use Rattle.two_state.proofs.values.matching_bits.Given as goal

abbrev pub invariant-loop-rest : goal.invariant-loop-rest
invariant-loop-rest l = meanings l.made ++ each matching l.rest ≡ each matching l.fn.width

abbrev pub decreases-loop-rest : goal.decreases-loop-rest
decreases-loop-rest l = l.rest
