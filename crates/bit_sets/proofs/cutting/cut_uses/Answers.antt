use Rattle.std.proofs.Common.{◌+◌, ◌∙◌, ap, sym, drop, cond, [], ◌++◌}
use Rattle.bit_sets.specs.Sets.{in_spans, tokens_at}
use Rattle.bit_sets.proofs.Steps as S
use Rattle.bit_sets.proofs.Cuts as C
use Rattle.bit_sets.proofs.cutting.cut_uses.Goals as goal

pub loop-u-preserved : goal.loop-u-preserved
loop-u-preserved c = λ n.
    C.use-on (in_spans c.args.set.now n) _ (drop (c.loop-u.u-index + 1) c.args.uses.now) n _ _ _ (c.in_ok-cut_use.ensures n)
    (ap (λ us. tokens_at c.loop-u.to n ++ cond (in_spans c.args.set.now n) [] (tokens_at us n)) (sym (S.at-front c.args.uses.now c.loop-u.u-index _ c.loop-u-test.true)) ∙ c.loop-u.invariant n)

pub returns : goal.returns
returns c = λ n. C.use-end _ n (drop c.loop-u.u-index c.args.uses.now) _ _ (S.none-left c.args.uses.now c.loop-u.u-index c.loop-u-test.false) (c.loop-u.invariant n)
