-- Laws of steps of typing as rulesets.
use Rattle.typing_steps.proofs.Combining.{beside-fine, beside-breaks, beside-second, beside-quiet, beside-behind-quiet, checked-fine, checked-stops, rule-types}
use Rattle.typing_operators.proofs.Slicing.{slice-by-name}

pub ruleset besides = (beside-fine, beside-breaks, beside-second, beside-quiet, beside-behind-quiet)

pub ruleset steps = (checked-fine, checked-stops, rule-types)

pub ruleset names = (slice-by-name)
