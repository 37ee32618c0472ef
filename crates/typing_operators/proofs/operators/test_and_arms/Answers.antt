use Rattle.typing_parts.proofs.Keeping.{extends-then}
use Rattle.typing_operators.proofs.operators.test_and_arms.Goals as goal

pub returns-in_ok-arms-in-Ok-clause-keeps : goal.returns-in_ok-arms-in-Ok-clause-keeps
returns-in_ok-arms-in-Ok-clause-keeps g c = extends-then _ _ _ c.in-Ok.ensures.keeps c.in_ok-arms-in-Ok.ensures.keeps
