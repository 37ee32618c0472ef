use Rattle.std.proofs.Common.{length, slice_get, slice_index_or, sym, ap, ◌∙◌, subst, inl, inr, arith}
use Rattle.std.proofs.lemmas.Bool.{cases_order}
use Rattle.std.proofs.lemmas.List.{get_or_default}
use Rattle.round_runner.specs.Rows.{FitsRow}
use Rattle.round_runner_tests.specs.Netlists.{shape_of}
use Rattle.round_runner_tests.proofs.Netlisted.{row_fits}
use Rattle.round_runner_tests.proofs.netlist.Netlist.rows_fit.Goals as goal

pub loop-row-preserved : goal.loop-row-preserved
loop-row-preserved c =
    let netlist = c.args.self.now in
    let rows = c.as_slice-row-items.result.now in
    let i = c.loop-row.row-index in
    let row = c.row-item.result in
    let long = c.row_fits.ensures.long c.if-not-row_fits.false in
    let bits = c.row_fits.ensures.bits c.if-not-row_fits.false in
    let fits : FitsRow (shape_of netlist.initial) netlist.inputs row =
    row_fits (length netlist.initial) netlist.inputs row (ap length (sym c.as_slice-in-loop-row.ensures) ∙ long ∙ ap length c.as_slice.ensures) netlist.whole.inputs_there
    (λ k v h. bits k v (ap (λ vs. slice_get vs k) c.as_slice-in-loop-row.ensures ∙ h)) in
    λ k d h.
    elim (cases_order k i) [
      | inl same ↦
          subst (FitsRow (shape_of netlist.initial) netlist.inputs)
          (c.row-item.is ∙ get_or_default rows i row d (omega arith) ∙ ap (λ j. slice_index_or rows j d) (sym same))
          fits
      | inr other ↦ c.loop-row.invariant k d (elim other [ inl l ↦ l | inr l ↦ absurd (omega arith) ])
    ]
