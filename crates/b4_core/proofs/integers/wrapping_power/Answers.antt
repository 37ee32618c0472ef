use Rattle.std.proofs.Common.{◌^◌, ◌∙◌, arith}
use Rattle.std.proofs.Math.Nat.{mod-lt}
use Rattle.b4_core.proofs.Squaring.{even_turn, odd_turn}
use Rattle.b4_core.proofs.integers.wrapping_power.Goals as goal
use Rattle.b4_core.proofs.integers.wrapping_power.Goals.{then-left-eq1, else-left-eq1}

pub loop-left-preserved : goal.loop-left-preserved
loop-left-preserved c = let l = c.loop-left in elim c.if-left-eq1.branch [
  | then-left-eq1 w ↦ rw w.power-is (odd_turn l.power l.square l.left (2 ^ 128) w.if-left-eq1.true ∙ l.invariant.0, mod-lt _ (omega arith))
  | else-left-eq1 w ↦ rw w.power-is (even_turn l.power l.square l.left (2 ^ 128) w.if-left-eq1.false ∙ l.invariant.0, l.invariant.1)
]
