use Rattle.std.proofs.Common.{sym, ap, ◌∙◌, None}
use Rattle.value_breaks.specs.Signals.{is_of_value, least_by}
use Rattle.value_breaks.proofs.Values.{values-law, no-values-law}
use Rattle.value_breaks.proofs.drives_a_value.Goals as goal

pub returns-then-is_continuous : goal.returns-then-is_continuous
returns-then-is_continuous c =
    values-law c.args.signals.now c.args.process.now c.args.found.now c.least_of_values.result (sym c.is_continuous.ensures ∙ c.if-is_continuous.true)
    (c.least_of_values.ensures ∙ ap (least_by (is_of_value c.args.signals.now) None) c.as_slice.ensures)

pub returns-else-is_continuous : goal.returns-else-is_continuous
returns-else-is_continuous c = λ d same flows can. no-values-law c.args.process.now (sym c.is_continuous.ensures ∙ c.if-is_continuous.false) d
