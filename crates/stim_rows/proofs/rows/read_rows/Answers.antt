use Rattle.std.proofs.Common.{◌∙◌, ap, length}
use Rattle.stim_rows.specs.Slots.{slots_of}
use Rattle.stim_rows.specs.Reading.{rows_in}
use Rattle.stim_rows.proofs.Given.{departs-there, too-many, rows-given}
use Rattle.stim_rows.proofs.rows.read_rows.Goals as goal

pub returns-in-Some : goal.returns-in-Some
returns-in-Some c =
    departs-there c.args.shape.now c.args.file c.args.bytes.now c.as_slice-slots.result.now c.in-Some.at c.into.result c.in_ok-departure_refusal.field-0
    (c.as_slice-slots.ensures.value ∙ c.in_ok-line.ensures ∙ ap slots_of c.as_slice-inputs.ensures) c.in-Some.ensures c.into.ensures c.in_ok-departure_refusal.ensures

pub returns-then-saturating_mul-gt-ROW_LIMIT : goal.returns-then-saturating_mul-gt-ROW_LIMIT
returns-then-saturating_mul-gt-ROW_LIMIT c =
    too-many c.args.shape.now c.args.file c.args.bytes.now c.as_slice-slots.result.now (c.as_slice-slots.ensures.value ∙ c.in_ok-line.ensures ∙ ap slots_of c.as_slice-inputs.ensures) c.in_default.ensures
    c.count_of-count.result c.count_of-count.ensures
    c.saturating_mul.result c.into-then-saturating_mul-gt-ROW_LIMIT.result c.in_ok-too_many.field-0 c.saturating_mul.ensures c.if-saturating_mul-gt-ROW_LIMIT.true c.into-then-saturating_mul-gt-ROW_LIMIT.ensures c.in_ok-too_many.ensures

pub returns : goal.returns
returns c =
    rows-given c.args.shape.now c.args.file c.args.bytes.now c.as_slice-slots.result.now (c.as_slice-slots.ensures.value ∙ c.in_ok-line.ensures ∙ ap slots_of c.as_slice-inputs.ensures) c.in_default.ensures
    c.count_of-count.result c.count_of-count.ensures
    c.in_ok-rows_of.field-0 c.saturating_mul.result c.saturating_mul.ensures c.if-saturating_mul-gt-ROW_LIMIT.false
    (c.in_ok-rows_of.ensures ∙ ap (λ i. rows_in c.count_of-count.result i (length c.as_slice-slots.result.now) c.args.bytes.now) c.as_slice-inputs.ensures)
