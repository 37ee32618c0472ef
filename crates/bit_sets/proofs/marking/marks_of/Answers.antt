use Rattle.std.proofs.Common.{arith, ap, sym, ◌∙◌, ◌+◌, ◌-◌, ◌++◌}
use Rattle.bit_sets.specs.Sets.{in_spans, tests_from}
use Rattle.bit_sets.proofs.Marks as M
use Rattle.bit_sets.proofs.marking.marks_of.Goals as goal

pub loop-k-preserved : goal.loop-k-preserved
loop-k-preserved c =
    let at = c.args.low + c.loop-k.k in
    let f = in_spans c.args.set.now in
    record {
      rest = λ n far. c.loop-k.invariant.rest n (omega (arith, far)) ∙ c.next_behind-at.ensures.value n (omega (arith, far));
      value =
          ap (λ ms. ms ++ tests_from f (c.args.low + (c.loop-k.k + 1)) (c.args.count - (c.loop-k.k + 1))) c.in_ok-push.ensures.ok
          ∙ M.told-on f c.args.low c.loop-k.k c.args.count c.is_next.result c.loop-k.marks _ c.loop-k-test.true
          (c.is_next.ensures ∙ sym (c.loop-k.invariant.rest at (omega arith) ∙ c.next_behind-at.ensures.value at (omega arith))) c.loop-k.invariant.value;
    }

pub returns : goal.returns
returns c = M.told-all (in_spans c.args.set.now) c.args.low c.loop-k.k c.args.count c.loop-k.marks _ c.loop-k-test.false c.loop-k.invariant.value
