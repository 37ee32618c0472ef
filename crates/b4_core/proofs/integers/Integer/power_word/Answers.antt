use Rattle.b4_core.proofs.TwosComplement.{power_plain, power_turned, low_of_power, low_of_turned_power}
use Rattle.b4_core.proofs.integers.Integer.power_word.Goals as goal
use Rattle.b4_core.proofs.integers.Integer.power_word.Goals.{else-self-via-then-self+else-exponent-eq1, else-self-via-else-self}

pub returns-then-exponent-eq1 : goal.returns-then-exponent-eq1
returns-then-exponent-eq1 c =
    low_of_turned_power _ _ _ _
    (power_turned _ _ _ _ (c.self.invariant c.if-self.true) c.if-self.true c.if-exponent-eq1.true c.self.view_is)
    c.wrapping_power-power.ensures c.wrapping_neg.ensures

pub returns-else-self : goal.returns-else-self
returns-else-self c = elim c.else-self.branch [
  | else-self-via-then-self+else-exponent-eq1 w ↦
      low_of_power _ _ (power_plain _ _ _ _ c.self.view_is (λ t. w.if-exponent-eq1.false)) _ c.wrapping_power-power.ensures
  | else-self-via-else-self w ↦
      low_of_power _ _ (power_plain _ _ _ _ c.self.view_is (λ t. absurd (cc (t, w.if-self.false)))) _ c.wrapping_power-power.ensures
]
