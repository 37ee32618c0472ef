use Rattle.std.proofs.Common.{◌+◌, arith, sym, ◌∙◌, subst}
use Rattle.peel.proofs.Ending.{Gathered, gathered-none, gathered-more, gathered-same, gathered-all, held-true, held-false}
use Rattle.peel.proofs.peeling.held_numbers.Goals as goal
use Rattle.peel.proofs.peeling.held_numbers.Goals.{then-is_held+in_ok-push, else-is_held}

pub loop-p-init : goal.loop-p-init
loop-p-init c = subst (λ left. Gathered c.args.marks.now left 0) (sym c.new-left.ensures) (gathered-none c.args.marks.now)

pub loop-p-preserved : goal.loop-p-preserved
loop-p-preserved c =
    elim c.if-is_held.branch [
      | then-is_held+in_ok-push w ↦
          subst (λ left. Gathered c.args.marks.now left (c.loop-p.p + 1)) (sym (w.left-is ∙ w.in_ok-push.ensures.ok))
          (gathered-more c.args.marks.now c.loop-p.left c.loop-p.p c.loop-p.invariant
          (sym c.mark_of.ensures ∙ held-true c.mark_of.result (sym c.is_held.ensures ∙ w.if-is_held.true)))
      | else-is_held w ↦
          subst (λ left. Gathered c.args.marks.now left (c.loop-p.p + 1)) (sym w.left-is)
          (gathered-same c.args.marks.now c.loop-p.left c.loop-p.p c.loop-p.invariant
          (λ e. held-false c.mark_of.result (sym c.is_held.ensures ∙ w.if-is_held.false) (c.mark_of.ensures ∙ e)))
    ]

pub returns : goal.returns
returns c = gathered-all c.args.marks.now c.loop-p.left c.loop-p.p (omega arith) c.loop-p.invariant
