use Rattle.std.proofs.Common.{◌≡◌, sym, ◌∙◌, subst, drop, ◌+◌}
use Rattle.bit_clashes.specs.declared.Reach.{Reach}
use Rattle.bit_clashes.specs.Clashes.{sweep, start}
use Rattle.bit_clashes.proofs.Sweeping.{sweep-end, sweep-out, sweep-hit, sweep-on}
use Rattle.bit_clashes.proofs.clashes_up_to.Goals as goal
use Rattle.bit_clashes.proofs.clashes_up_to.Goals.{then-counts+else-meets_other, else-counts}

pub returns-then-meets_other : goal.returns-then-meets_other
returns-then-meets_other c =
    sym (sweep-hit c.args.limit c.loop-p.reach c.args.pieces.now c.loop-p.p-index c.loop-p-test.true (sym c.counts.ensures ∙ c.if-counts.true) (sym c.meets_other.ensures ∙ c.if-meets_other.true))
    ∙ c.loop-p.invariant

pub loop-p-preserved : goal.loop-p-preserved
loop-p-preserved c = elim c.if-counts.branch [
  | then-counts+else-meets_other w ↦
      subst (λ (r : Reach). sweep c.args.limit r (drop (c.loop-p.p-index + 1) c.args.pieces.now) ≡ sweep c.args.limit start c.args.pieces.now) (sym w.reach-is)
      (subst (λ (r : Reach). sweep c.args.limit r (drop (c.loop-p.p-index + 1) c.args.pieces.now) ≡ sweep c.args.limit start c.args.pieces.now) (sym w.grown-reach.ensures)
      (sweep-on c.args.limit c.loop-p.reach c.args.pieces.now c.loop-p.p-index c.loop-p-test.true (sym c.counts.ensures ∙ w.if-counts.true) (sym w.meets_other.ensures ∙ w.if-meets_other.false)
      ∙ c.loop-p.invariant))
  | else-counts w ↦
      subst (λ (r : Reach). sweep c.args.limit r (drop (c.loop-p.p-index + 1) c.args.pieces.now) ≡ sweep c.args.limit start c.args.pieces.now) (sym w.reach-is)
      (sweep-out c.args.limit c.loop-p.reach c.args.pieces.now c.loop-p.p-index c.loop-p-test.true (sym c.counts.ensures ∙ w.if-counts.false)
      ∙ c.loop-p.invariant)
]

pub returns : goal.returns
returns c = sym (sweep-end c.args.limit c.loop-p.reach c.args.pieces.now c.loop-p.p-index c.loop-p-test.false) ∙ c.loop-p.invariant
