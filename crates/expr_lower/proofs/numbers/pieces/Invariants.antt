use Rattle.std.proofs.Common.{◌≤◌, length, drop}
use Rattle.v_build.specs.Trees.{meanings}
use Rattle.expr_lower.specs.Numbers.{ArePieces}
use Rattle.expr_lower.proofs.numbers.pieces.Given as goal

abbrev pub invariant-loop-end : goal.invariant-loop-end
invariant-loop-end l = record { few : l.end ≤ length l.bits; made : ArePieces (meanings l.made) (drop l.end l.bits) }

abbrev pub decreases-loop-end : goal.decreases-loop-end
decreases-loop-end l = l.end
