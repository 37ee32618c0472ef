-- Laws of steps of typing as rulesets.
use Rattle.typing_steps.proofs.Combining.{beside-fine, beside-breaks, beside-second, beside-quiet, beside-behind-quiet, checked-fine, checked-stops, rule-types}
use Rattle.typing_values.proofs.Constants.{ready-runs, number-within, width-within}
use Rattle.typing_values.proofs.Names.{leaf-by, named-narrow, named-fits}
use Rattle.typing_values.proofs.Operands.{constant-fits, value-narrow, bits-narrow, part-narrow, same-narrow, streamed-narrow, unstreamed-narrow, unstreamed-fits}

pub ruleset besides = (beside-fine, beside-breaks, beside-second, beside-quiet, beside-behind-quiet)

pub ruleset steps = (checked-fine, checked-stops, rule-types)

pub ruleset values = (checked-fine, checked-stops, rule-types, value-narrow)

pub ruleset bits = (checked-fine, checked-stops, rule-types, bits-narrow)

pub ruleset indices = (checked-fine, checked-stops, rule-types, same-narrow)

pub ruleset parts = (checked-fine, checked-stops, rule-types, part-narrow)

pub ruleset unstreaming = (checked-fine, checked-stops, rule-types, unstreamed-narrow, unstreamed-fits)

pub ruleset constants = (checked-fine, checked-stops, rule-types, constant-fits)

pub ruleset running = (ready-runs, number-within)

pub ruleset widths = (width-within)

pub ruleset streaming = (streamed-narrow)

pub ruleset names = (leaf-by, named-narrow, named-fits)
