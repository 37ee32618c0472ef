-- Laws as rulesets.
use Rattle.typing_steps.proofs.Combining.{beside-fine, beside-breaks, beside-second, beside-quiet, beside-behind-quiet, checked-fine, checked-stops, rule-types}
use Rattle.typing_operators.proofs.Ranges.{narrow-added}

pub ruleset narrows = (narrow-added)

pub ruleset insides = (beside-fine, beside-breaks, beside-second, beside-quiet, beside-behind-quiet, checked-fine, checked-stops, rule-types)
