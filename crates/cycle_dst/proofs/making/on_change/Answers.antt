use Rattle.std.proofs.Common.{◌∙◌, ap, refl}
use Rattle.row_machine.specs.Settle.{differs}
use Rattle.round_runner.specs.Stores.{holding, widths}
use Rattle.v_stores.specs.Waits.{named_places}
use Rattle.cycle_dst.proofs.Collected.{star-kept}
use Rattle.cycle_dst.proofs.making.on_change.Goals as goal

pub returns : goal.returns
returns c =
    let g = c.args.ground in
    star-kept g c.args.k (record { process = c.args.k; from_zero = c.differ_in-from_zero.result; waits = c.waits_of.result }) c.args.names c.requires.ground c.triggered_by_listed.ensures
    c.requires.names refl (c.differ_in-from_zero.ensures ∙ ap (λ ns. differs (named_places ns (widths g.initial.now)) (holding g.given.now) (holding g.initial.now)) c.as_slice.ensures) c.waits_of.ensures
