-- Laws of steps of typing as a ruleset.
use Rattle.typing_steps.proofs.Combining.{checked-fine, checked-stops, rule-types}

pub ruleset steps = (checked-fine, checked-stops, rule-types)
