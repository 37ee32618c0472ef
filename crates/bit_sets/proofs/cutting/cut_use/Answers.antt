use Rattle.std.proofs.Common.{arith, inl, inr}
use Rattle.bit_sets.proofs.Steps as S
use Rattle.bit_sets.proofs.Cuts as C
use Rattle.bit_sets.proofs.cutting.cut_use.Goals as goal
use Rattle.bit_sets.proofs.cutting.cut_use.Goals.{then-loop-k-test+else-set-k, else-loop-k-test}

pub loop-k-init : goal.loop-k-init
loop-k-init c = record {
  rest = C.set-from c.first_behind-k.result c.args.set.now c.requires.set;
  value = λ n. C.start c.args.u.span n c.args.set.now c.first_behind-k.result _ _ (c.first_behind-k.ensures.value n);
}

pub loop-k-preserved : goal.loop-k-preserved
loop-k-preserved c = record {
  rest = S.rest-lower 0 0 c.loop-k.k c.args.set.now S.zero_span c.loop-k-test.true (omega arith) c.loop-k.invariant.rest;
  value = λ n. C.cut-on c.loop-k.low c.max-low.result c.args.u.span.high c.loop-k.k n c.args.set.now S.zero_span _ _ _ _ c.loop-k-test.true c.loop-k.invariant.rest c.if-set-k.true c.max-low.ensures (c.in_ok-push_use.ensures n) (c.loop-k.invariant.value n);
}

pub returns : goal.returns
returns c = λ n.
    C.cut-end c.loop-k.low c.args.u.span.high c.loop-k.k n c.args.set.now S.zero_span _ _ _ _ c.loop-k.invariant.rest
    (elim c.loop-k-test.branch [
      | then-loop-k-test+else-set-k w ↦ inr (w.loop-k-test.true, w.if-set-k.false)
      | else-loop-k-test w ↦ inl w.loop-k-test.false
    ]) (c.in_ok-push_use-2.ensures n) (c.loop-k.invariant.value n)
