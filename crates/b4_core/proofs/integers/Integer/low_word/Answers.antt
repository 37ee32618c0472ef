use Rattle.b4_core.proofs.TwosComplement.{low_of_negative, low_of_other}
use Rattle.b4_core.proofs.integers.Integer.low_word.Goals as goal

pub returns-then-self : goal.returns-then-self
returns-then-self c = low_of_negative _ _ _ _ c.if-self.true c.self.view_is c.wrapping_neg.ensures

pub returns-else-self : goal.returns-else-self
returns-else-self c = low_of_other _ _ _ c.if-self.false c.self.view_is
