use Rattle.std.proofs.Common.{arith, sym, ap, ◌∙◌, subst, length}
use Rattle.comb_order.specs.Combs.{numbers_from}
use Rattle.comb_order.specs.Bits.{widths_of, AreFootprintsOf}
use Rattle.comb_order.proofs.Standing.{numbers-low}
use Rattle.comb_order.proofs.Footprints.{are-footprints}
use Rattle.comb_order.proofs.ordering.order_of.Goals as goal

pub comb_footprints-requires : goal.comb_footprints-requires
comb_footprints-requires c =
    numbers-low c.as_slice-4.result.now c.args.design.now.processes (length c.args.flows.now) (c.as_slice-4.ensures ∙ c.in_ok-numbers.ensures ∙ ap (numbers_from 0) c.as_slice-2.ensures)
    (let count = c.requires.flows.count in omega (arith, count))

pub order_by-requires-clause-footprints : goal.order_by-requires-clause-footprints
order_by-requires-clause-footprints c =
    subst (AreFootprintsOf c.args.design.now) (sym c.as_slice-6.ensures)
    (are-footprints c.args.design.now c.args.flows.now c.as_slice-3.result.now c.as_slice-4.result.now c.in_ok-footprints.footprints c.requires.flows (c.as_slice-3.ensures ∙ c.in_ok-widths.ensures ∙ ap widths_of c.as_slice.ensures)
    (c.as_slice-4.ensures ∙ c.in_ok-numbers.ensures ∙ ap (numbers_from 0) c.as_slice-2.ensures) c.in_ok-footprints.ensures)
