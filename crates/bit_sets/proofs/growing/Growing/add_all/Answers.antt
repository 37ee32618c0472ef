use Rattle.std.proofs.Common.{arith, ◌∙◌, sym, ap, ◌||◌}
use Rattle.bit_sets.specs.Growing.{grown}
use Rattle.bit_sets.proofs.Laws as L
use Rattle.bit_sets.proofs.Steps as S
use Rattle.bit_sets.proofs.growing.Growing.add_all.Goals as goal

pub add-requires-clause-behind : goal.add-requires-clause-behind
add-requires-clause-behind c = S.low-at _ c.loop-k.k c.args.spans.now _ c.loop-k-test.true c.loop-k.invariant.behind

pub add-requires-clause-some : goal.add-requires-clause-some
add-requires-clause-some c = S.some-at _ c.loop-k.k c.args.spans.now _ c.loop-k-test.true c.loop-k.invariant.behind

pub loop-k-preserved : goal.loop-k-preserved
loop-k-preserved c = record {
  growing = c.in_ok-add.ensures.growing;
  nothing = λ past. let from = c.loop-k.auto.k in absurd (omega (arith, from, past, c.loop-k-test.true));
  behind = S.rest-lower _ _ c.loop-k.k c.args.spans.now _ c.loop-k-test.true c.in_ok-add.ensures.behind c.loop-k.invariant.behind;
  value = λ n. S.moved _ _ _ _ _ _ (c.in_ok-add.ensures.value n) (S.in-at c.loop-k.k n c.args.spans.now _ c.loop-k-test.true) (c.loop-k.invariant.value n);
}

pub returns-clause-value : goal.returns-clause-value
returns-clause-value c =
    λ n. sym (L.or-false (grown c.loop-k.self n)) ∙ ap (λ b. grown c.loop-k.self n || b) (sym (S.in-past c.loop-k.k n c.args.spans.now c.loop-k-test.false)) ∙ c.loop-k.invariant.value n
