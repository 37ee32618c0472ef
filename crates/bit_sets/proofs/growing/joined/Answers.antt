use Rattle.std.proofs.Common.{arith, sym, subst, drop}
use Rattle.bit_sets.specs.declared.growing.Growing.{Growing}
use Rattle.bit_sets.specs.Sets.{Ascending}
use Rattle.bit_sets.proofs.Steps as S
use Rattle.bit_sets.proofs.growing.joined.Goals as goal
use Rattle.bit_sets.proofs.growing.joined.Goals.{then-loop-i-test+else-j-b, else-loop-i-test}

pub add-requires-clause-behind : goal.add-requires-clause-behind
add-requires-clause-behind c = S.low-at _ c.loop-i.i c.args.a.now _ c.loop-i-test.true c.loop-i.invariant.behind_a

pub add-requires-clause-some : goal.add-requires-clause-some
add-requires-clause-some c = S.some-at _ c.loop-i.i c.args.a.now _ c.loop-i-test.true c.loop-i.invariant.behind_a

pub loop-i-preserved-then-a-i : goal.loop-i-preserved-then-a-i
loop-i-preserved-then-a-i c = record {
  growing = c.in_ok-add.ensures.growing;
  behind_a = S.rest-lower _ _ c.loop-i.i c.args.a.now S.zero_span c.loop-i-test.true c.in_ok-add.ensures.behind c.loop-i.invariant.behind_a;
  behind_b = S.lower-at _ _ c.loop-i.j c.args.b.now S.zero_span c.if-j-b.true (omega (arith, c.in_ok-add.ensures.behind, c.if-a-i.true)) c.loop-i.invariant.behind_b;
  value = λ n. S.moved-left _ _ _ _ _ _ _ (c.in_ok-add.ensures.value n) (S.in-at c.loop-i.i n c.args.a.now _ c.loop-i-test.true) (c.loop-i.invariant.value n);
}

pub add-requires-else-a-i-clause-behind : goal.add-requires-else-a-i-clause-behind
add-requires-else-a-i-clause-behind c = S.low-at _ c.loop-i.j c.args.b.now _ c.if-j-b.true c.loop-i.invariant.behind_b

pub add-requires-else-a-i-clause-some : goal.add-requires-else-a-i-clause-some
add-requires-else-a-i-clause-some c = S.some-at _ c.loop-i.j c.args.b.now _ c.if-j-b.true c.loop-i.invariant.behind_b

pub loop-i-preserved : goal.loop-i-preserved
loop-i-preserved c = record {
  growing = c.in_ok-add-2.ensures.growing;
  behind_a = S.lower-at _ _ c.loop-i.i c.args.a.now S.zero_span c.loop-i-test.true (omega (arith, c.in_ok-add-2.ensures.behind, c.if-a-i.false)) c.loop-i.invariant.behind_a;
  behind_b = S.rest-lower _ _ c.loop-i.j c.args.b.now S.zero_span c.if-j-b.true c.in_ok-add-2.ensures.behind c.loop-i.invariant.behind_b;
  value = λ n. S.moved-right _ _ _ _ _ _ _ (c.in_ok-add-2.ensures.value n) (S.in-at c.loop-i.j n c.args.b.now _ c.if-j-b.true) (c.loop-i.invariant.value n);
}

pub add_all-requires-2-clause-behind : goal.add_all-requires-2-clause-behind
add_all-requires-2-clause-behind c =
    elim c.loop-i-test.branch [
      | then-loop-i-test+else-j-b w ↦ S.ascending-past _ c.loop-i.j c.args.b.now w.if-j-b.false
      | else-loop-i-test w ↦
          subst (λ (g : Growing). Ascending g.last.low (drop c.loop-i.j c.args.b.now)) (sym (c.in_ok-add_all.ensures.nothing w.loop-i-test.false)) c.loop-i.invariant.behind_b
    ]
