use Rattle.std.proofs.Common.{◌<◌, ◌+◌, length, slice_index_or, refl, arith, ◌∙◌, subst, sym}
use Rattle.round_runner.proofs.Compared.{read, same_size, same_width, differs_at}
use Rattle.round_runner.proofs.Groups.{Adding, adding_pushed, adding_passed}
use Rattle.round_runner.proofs.remake.add_changes.Goals as goal
use Rattle.round_runner.proofs.remake.add_changes.Goals.{then-differ+in_ok-push, else-differ}

pub differ-requires : goal.differ-requires
differ-requires c =
    let ns = c.args.signals.now in
    let i = c.loop-n.n-index in
    let room : i < length ns = omega arith in
    same_width c.args.old.now c.args.new.now (slice_index_or ns i 0) c.index-old-n.result c.index-new-n.result c.index-old-n.result c.index-new-n.result (sym c.requires.shape) (c.requires.there i 0 room)
    c.index-old-n.is c.index-new-n.is refl refl

pub loop-n-preserved : goal.loop-n-preserved
loop-n-preserved c =
    let ns = c.args.signals.now in
    let i = c.loop-n.n-index in
    let room : i < length ns = omega arith in
    let n = slice_index_or ns i 0 in
    let there : n < length c.args.old.now = c.requires.there i 0 room in
    let also : n < length c.args.new.now = omega (arith, same_size c.args.new.now c.args.old.now c.requires.shape) in
    let is_old = read c.args.old.now n c.index-old-n.result there c.index-old-n.is in
    let is_new = read c.args.new.now n c.index-new-n.result also c.index-new-n.is in
    elim c.if-differ.branch [
      | then-differ+in_ok-push w ↦
          subst (λ ms. Adding ns c.args.old.now c.args.new.now c.args.changed.now ms (i + 1)) (sym w.changed-is)
          (adding_pushed ns c.args.old.now c.args.new.now c.args.changed.now c.loop-n.changed w.push.new.self i n room refl w.in_ok-push.ensures.ok
          (differs_at c.args.old.now c.args.new.now n c.index-old-n.result c.index-new-n.result is_old is_new (c.differ.ensures.apart w.if-differ.true))
          c.loop-n.invariant)
      | else-differ w ↦
          subst (λ ms. Adding ns c.args.old.now c.args.new.now c.args.changed.now ms (i + 1)) (sym w.changed-is)
          (adding_passed ns c.args.old.now c.args.new.now c.args.changed.now c.loop-n.changed i n room refl
          (sym is_new ∙ sym (c.differ.ensures.same w.if-differ.false) ∙ is_old)
          c.loop-n.invariant)
    ]
