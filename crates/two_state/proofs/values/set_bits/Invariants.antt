use Rattle.std.proofs.Common.{◌≡◌, ◌++◌}
use Rattle.v_build.specs.Trees.{meanings}
use Rattle.two_state.specs.Kinds.{each, is_set}
use Rattle.two_state.proofs.values.set_bits.Given as goal

abbrev pub invariant-loop-rest : goal.invariant-loop-rest
invariant-loop-rest l = meanings l.made ++ each is_set l.rest ≡ each is_set l.fn.width

abbrev pub decreases-loop-rest : goal.decreases-loop-rest
decreases-loop-rest l = l.rest
