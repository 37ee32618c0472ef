use Rattle.std.proofs.Common.{◌<◌, length, slice_index_or, refl, arith, ap, ◌∙◌, subst}
use Rattle.round_runner.specs.Plans.{AddsChanges, under}
use Rattle.round_runner.proofs.Groups.{changes_more}
use Rattle.round_runner.proofs.remake.changes.Goals as goal

pub loop-group-preserved : goal.loop-group-preserved
loop-group-preserved c =
    let gs = c.args.groups.now in
    let i = c.loop-group.group-index in
    let room : i < length gs = omega arith in
    let n = slice_index_or gs i 0 in
    changes_more c.args.plan.now gs c.args.old.now c.args.new.now c.loop-group.changed c.add_changes.new.changed i n c.requires.plan room refl (c.requires.groups i 0 room)
    (subst (λ ns. AddsChanges ns c.args.old.now c.args.new.now c.loop-group.changed c.add_changes.new.changed) (c.list_under.ensures ∙ ap (λ ls. under ls n) c.as_slice.ensures) c.in_ok-add_changes.ensures)
    c.loop-group.invariant
