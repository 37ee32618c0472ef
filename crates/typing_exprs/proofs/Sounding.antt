-- What is typed is narrow and can be valued, as a ruleset.
use Rattle.typing_operators.proofs.Sound.{typed-fits, typed-narrow}

pub ruleset soundness = (typed-narrow, typed-fits)
