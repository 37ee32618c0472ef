use Rattle.std.proofs.Common.{◌∙◌, ap, sym, drop, ◌||◌, ◌+◌}
use Rattle.bit_sets.specs.Sets.{in_spans}
use Rattle.bit_sets.proofs.Steps as B
use Rattle.flow_sets.specs.Uses.{surely}
use Rattle.flow_sets.proofs.Early as E
use Rattle.flow_sets.proofs.found.sure_set.Goals as goal

pub loop-w-preserved : goal.loop-w-preserved
loop-w-preserved c = record {
  set = c.in_ok-set.ensures.set;
  value = λ n. E.sure-on _ (drop (c.loop-w.w-index + 1) c.args.writes.now) n _ _ _ (c.in_ok-set.ensures.value n)
      (ap (λ ws. in_spans c.loop-w.set n || surely ws n) (sym (B.at-front c.args.writes.now c.loop-w.w-index _ c.loop-w-test.true)) ∙ c.loop-w.invariant.value n);
}

pub returns-clause-value : goal.returns-clause-value
returns-clause-value c = λ n. E.sure-end (drop c.loop-w.w-index c.args.writes.now) n _ _ (B.none-left c.args.writes.now c.loop-w.w-index c.loop-w-test.false) (c.loop-w.invariant.value n)
