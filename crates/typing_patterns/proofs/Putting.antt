-- Laws as rulesets.
use Rattle.typing_steps.proofs.Combining.{beside-fine, beside-breaks, beside-second, beside-quiet, beside-behind-quiet, checked-fine, checked-stops, rule-types}
use Rattle.typing_values.proofs.Constants.{ready-runs}
use Rattle.typing_patterns.proofs.Things.{constant-names, signal-stands, local-stands, type-stands, interface-stands, broken-stands, other-stands, nothing-stands, constant-stands, name-memory}
use Rattle.typing_patterns.proofs.Levels.{default-types, keyed-types, value-types, named-types, numbered-types}
use Rattle.typing_patterns.proofs.Placing.{items-make, items-stop, values-make, values-stop, values-behind, count-breaks}

pub ruleset steps = (checked-fine, checked-stops, rule-types)

pub ruleset both = (beside-fine, beside-breaks, beside-second, beside-quiet, beside-behind-quiet, checked-fine, checked-stops, rule-types)

pub ruleset numbers = (checked-fine, checked-stops, rule-types, ready-runs)

pub ruleset constants = (constant-stands, name-memory, ready-runs)

pub ruleset things = (constant-names, signal-stands, local-stands, type-stands, interface-stands, broken-stands, other-stands, nothing-stands)

pub ruleset keyed = (named-types, numbered-types)

pub ruleset levels = (default-types, keyed-types, value-types)

pub ruleset patterns = (items-make, items-stop, values-make, values-stop, values-behind, count-breaks)
