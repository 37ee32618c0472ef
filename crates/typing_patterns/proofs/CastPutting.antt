-- Laws as rulesets.
use Rattle.typing_steps.proofs.Combining.{beside-fine, beside-breaks, beside-second, beside-quiet, beside-behind-quiet, checked-fine, checked-stops, rule-types}
use Rattle.typing_patterns.proofs.TypingValues.{value-narrow, bits-narrow}
use Rattle.typing_patterns.proofs.Crossing.{where-fine, where-stops, inside-pattern, inside-value, bits-types, bits-stop, size-types, size-stop}

pub ruleset operands = (where-fine, where-stops, value-narrow, bits-narrow)

pub ruleset wheres = (where-fine, where-stops)

pub ruleset insides = (inside-pattern, inside-value)

pub ruleset bits = (bits-types, bits-stop)

pub ruleset sizes = (size-types, size-stop)

pub ruleset both = (beside-fine, beside-breaks, beside-second, beside-quiet, beside-behind-quiet, checked-fine, checked-stops, rule-types)

pub ruleset signs = (checked-fine, checked-stops)
