use Rattle.std.proofs.Common.{◌∙◌, length}
use Rattle.row_machine.proofs.Basics.{member_at}
use Rattle.bit_sets.proofs.Halves.{if-ok}
use Rattle.comb_order.proofs.First.{mapped-low, is-refusal}
use Rattle.comb_order.proofs.ordering.refused.Goals as goal

pub first_of-first-requires-clause-within : goal.first_of-first-requires-clause-within
first_of-first-requires-clause-within c = λ k low.
    mapped-low c.args.numbers.now c.args.left.now c.as_slice.result.now (length c.args.processes.now) (c.as_slice.ensures ∙ c.in_ok-stuck.ensures) c.requires.places c.requires.within _ (member_at c.as_slice.result.now k 0 low)

pub bounds-processes-first : goal.bounds-processes-first
bounds-processes-first c =
    mapped-low c.args.numbers.now c.args.left.now c.as_slice.result.now (length c.args.processes.now) (c.as_slice.ensures ∙ c.in_ok-stuck.ensures) c.requires.places c.requires.within _ c.first_of-first.ensures.there

pub returns : goal.returns
returns c =
    let low = mapped-low c.args.numbers.now c.args.left.now c.as_slice.result.now (length c.args.processes.now) (c.as_slice.ensures ∙ c.in_ok-stuck.ensures) c.requires.places c.requires.within c.first_of-first.result c.first_of-first.ensures.there in
    if-ok (λ r made. is-refusal c.args.processes.now _ c.as_slice.result.now c.first_of-first.result c.index-processes-first.result r (c.as_slice.ensures ∙ c.in_ok-stuck.ensures) low c.index-processes-first.is c.first_of-first.ensures made)
    c.refusal_of.result c.refusal_of.ensures
