use Rattle.std.proofs.Common.{arith, ◌∙◌, sym, ap, subst, inl, inr, ◌||◌, ◌&&◌}
use Rattle.bit_sets.specs.Sets.{in_spans, IsSet}
use Rattle.bit_sets.specs.Growing.{end_of, EndsBefore}
use Rattle.bit_sets.proofs.Laws as L
use Rattle.bit_sets.proofs.Steps as S
use Rattle.bit_sets.proofs.meeting.common.Goals as goal
use Rattle.bit_sets.proofs.meeting.common.Goals.{then-loop-i-test+else-j-b, else-loop-i-test}

pub loop-i-init : goal.loop-i-init
loop-i-init c = record {
  set = subst IsSet (sym c.new-out.ensures) (L.ascending-none 0);
  rest_a = c.requires.a;
  rest_b = c.requires.b;
  before = subst (λ e. EndsBefore e c.args.a.now c.args.b.now) (sym (ap (end_of 0) c.new-out.ensures ∙ L.end-none 0)) (S.before-start c.args.a.now c.args.b.now);
  value = λ n. ap (λ ss. in_spans ss n || (in_spans c.args.a.now n && in_spans c.args.b.now n)) c.new-out.ensures ∙ ap (λ b. b || (in_spans c.args.a.now n && in_spans c.args.b.now n)) (L.in-none n);
}

pub push_span-requires-clause-behind : goal.push_span-requires-clause-behind
push_span-requires-clause-behind c =
    let h = S.before-at (end_of 0 c.loop-i.out) c.loop-i.i c.loop-i.j c.args.a.now c.args.b.now S.zero_span c.loop-i-test.true c.if-j-b.true c.loop-i.invariant.before in
    let e = ap (λ s. s.low) c.overlap-both.ensures in omega (arith, h, e)

pub loop-i-preserved-then-a-i : goal.loop-i-preserved-then-a-i
loop-i-preserved-then-a-i c = record {
  set = c.in_ok-push_span.ensures.set;
  rest_a = S.rest-lower 0 0 c.loop-i.i c.args.a.now S.zero_span c.loop-i-test.true (omega arith) c.loop-i.invariant.rest_a;
  rest_b = c.loop-i.invariant.rest_b;
  before = S.before-left _ 0 0 c.loop-i.i c.loop-i.j c.args.a.now c.args.b.now S.zero_span c.loop-i-test.true c.if-j-b.true c.loop-i.invariant.rest_a c.loop-i.invariant.rest_b (omega (arith, c.in_ok-push_span.ensures.end, ap (λ s. s.low) c.overlap-both.ensures, ap (λ s. s.high) c.overlap-both.ensures)) c.if-a-i.true;
  value = λ n. S.met-left c.loop-i.i c.loop-i.j n c.args.a.now c.args.b.now S.zero_span c.overlap-both.result 0 0 _ _ _ c.loop-i-test.true c.if-j-b.true c.loop-i.invariant.rest_a c.loop-i.invariant.rest_b
      c.overlap-both.ensures c.if-a-i.true (c.in_ok-push_span.ensures.value n) (c.loop-i.invariant.value n);
}

pub loop-i-preserved : goal.loop-i-preserved
loop-i-preserved c = record {
  set = c.in_ok-push_span.ensures.set;
  rest_a = c.loop-i.invariant.rest_a;
  rest_b = S.rest-lower 0 0 c.loop-i.j c.args.b.now S.zero_span c.if-j-b.true (omega arith) c.loop-i.invariant.rest_b;
  before = S.before-right _ 0 0 c.loop-i.i c.loop-i.j c.args.a.now c.args.b.now S.zero_span c.loop-i-test.true c.if-j-b.true c.loop-i.invariant.rest_a c.loop-i.invariant.rest_b (omega (arith, c.in_ok-push_span.ensures.end, ap (λ s. s.low) c.overlap-both.ensures, ap (λ s. s.high) c.overlap-both.ensures)) (omega (arith, c.if-a-i.false));
  value = λ n. S.met-right c.loop-i.i c.loop-i.j n c.args.a.now c.args.b.now S.zero_span c.overlap-both.result 0 0 _ _ _ c.loop-i-test.true c.if-j-b.true c.loop-i.invariant.rest_a c.loop-i.invariant.rest_b
      c.overlap-both.ensures (omega (arith, c.if-a-i.false)) (c.in_ok-push_span.ensures.value n) (c.loop-i.invariant.value n);
}

pub returns-clause-value : goal.returns-clause-value
returns-clause-value c = λ n.
    S.met-all c.loop-i.i c.loop-i.j n c.args.a.now c.args.b.now _ _
    (elim c.loop-i-test.branch [
      | then-loop-i-test+else-j-b w ↦ inr w.if-j-b.false
      | else-loop-i-test w ↦ inl w.loop-i-test.false
    ]) (c.loop-i.invariant.value n)
