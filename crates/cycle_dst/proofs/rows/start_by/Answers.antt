use Rattle.std.proofs.Common.{◌∙◌, length, ap, sym, subst}
use Rattle.round_runner.specs.Stores.{Holds}
use Rattle.cycle_dst.specs.Grounds.{machine_in, widths_in}
use Rattle.cycle_dst.proofs.Wholly.{start-is, front-kept, as-long}
use Rattle.cycle_dst.proofs.rows.start_by.Goals as goal

pub returns : goal.returns
returns c =
    let g = c.args.ground in
    let before = c.deref_mut.result.now in
    let after = c.start_store.new.store in
    let long = as-long after before c.start_store.ensures.shape ∙ ap length c.deref_mut.ensures.value ∙ sym c.in_ok-store.store.ok.0 in
    subst (Holds (widths_in g) (machine_in g).start) (sym (front-kept c.in_ok-store.store.len after _ long))
    (start-is g c.args.marks.now before after c.requires.ground c.requires.marks (c.deref_mut.ensures.value ∙ c.in_ok-store.ensures) c.start_store.ensures)
