use Rattle.std.proofs.Common.{◌++◌, ◌∙◌, ap, sym, drop, ◌+◌}
use Rattle.bit_sets.proofs.Steps as B
use Rattle.flow_sets.specs.Uses.{met}
use Rattle.flow_sets.proofs.Early as E
use Rattle.flow_sets.proofs.found.add_met.Goals as goal
use Rattle.flow_sets.proofs.found.add_met.Goals.{then-touches+in_ok-push, else-touches}

pub loop-u-preserved : goal.loop-u-preserved
loop-u-preserved c =
    let rest = drop (c.loop-u.u-index + 1) c.args.uses.now in
    let before = ap (λ us. c.loop-u.all ++ met c.args.s us) (sym (B.at-front c.args.uses.now c.loop-u.u-index _ c.loop-u-test.true)) ∙ c.loop-u.invariant in
    elim c.if-touches.branch [
      | then-touches+in_ok-push w ↦
          ap (λ ts. ts ++ met c.args.s rest) (w.all-is ∙ w.in_ok-push.ensures.ok) ∙ E.met-on-yes c.args.s _ rest c.loop-u.all _ (sym c.touches.ensures ∙ w.if-touches.true) before
      | else-touches w ↦ ap (λ ts. ts ++ met c.args.s rest) w.all-is ∙ E.met-on-no c.args.s _ rest c.loop-u.all _ (sym c.touches.ensures ∙ w.if-touches.false) before
    ]

pub returns : goal.returns
returns c = E.met-end c.args.s (drop c.loop-u.u-index c.args.uses.now) _ _ (B.none-left c.args.uses.now c.loop-u.u-index c.loop-u-test.false) c.loop-u.invariant
