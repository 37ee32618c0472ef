use Rattle.std.proofs.Common.{rules, arith, slice_index_or, Fits}
use Rattle.std.specs.Int.{w128}
use Rattle.bit_sets.proofs.Counts as C
use Rattle.bit_sets.proofs.Steps as S
use Rattle.bit_sets.proofs.Steps.{zero_span}
use Rattle.bit_sets.proofs.counting.count_of.Goals as goal

pub overflow_sub-count : goal.overflow_sub-count
overflow_sub-count c =
    let some = S.some-at _ c.loop-s.s-index c.args.set.now zero_span c.loop-s-test.true c.loop-s.invariant.above in omega (arith, some)

pub overflow_add-count : goal.overflow_add-count
overflow_add-count c =
    let low = S.low-at _ c.loop-s.s-index c.args.set.now zero_span c.loop-s-test.true c.loop-s.invariant.above in
    let some = S.some-at _ c.loop-s.s-index c.args.set.now zero_span c.loop-s-test.true c.loop-s.invariant.above in
    let fits : Fits w128 (slice_index_or c.args.set.now c.loop-s.s-index zero_span).high = search rules in
    omega (arith, low, some, fits)

pub loop-s-preserved : goal.loop-s-preserved
loop-s-preserved c = record {
  above = C.counted-on _ c.loop-s.s-index c.args.set.now zero_span c.loop-s-test.true c.loop-s.invariant.above;
  value =
      let at = C.total-at c.loop-s.s-index c.args.set.now zero_span c.loop-s-test.true in
      let before = c.loop-s.invariant.value in
      omega (arith, at, before);
}

pub returns : goal.returns
returns c = λ n behind.
    let rest = C.total-past c.loop-s.s-index c.args.set.now c.loop-s-test.false in
    let before = c.loop-s.invariant.value in
    let all = C.counted 0 n c.args.set.now c.requires.set (omega (arith, behind)) in
    omega (arith, rest, before, all)
