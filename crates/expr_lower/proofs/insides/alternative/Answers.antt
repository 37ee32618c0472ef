use Rattle.v_meaning.specs.Values as T
use Rattle.expr_lower.proofs.Alternating.{takes-value, takes-range}
use Rattle.expr_lower.proofs.insides.alternative.Goals as goal

pub returns-in_ok-equal-in-Value-clause-takes : goal.returns-in_ok-equal-in-Value-clause-takes
returns-in_ok-equal-in-Value-clause-takes c =
    takes-value c.args.x.now c.in-Value.y c.args.choice.now c.args.rest.now c.last_two-pair.new.parts c.last_two-pair.result.left c.last_two-pair.result.right c.matching.new.helpers (T.meaning c.in_ok-equal-in-Value.equal)
    c.in-Value.is c.last_two-pair.ensures c.in_ok-equal-in-Value.ensures.matches

pub returns-in_ok-inner-in-Range-clause-takes : goal.returns-in_ok-inner-in-Range-clause-takes
returns-in_ok-inner-in-Range-clause-takes c =
    takes-range c.args.x.now _ _ c.args.choice.now c.args.rest.now c.last_two-high.new.parts c.last_two-low.new.parts c.last_two-low.result.left c.last_two-low.result.right c.last_two-high.result.left c.last_two-high.result.right
    c.args.helpers.now (T.meaning c.in_ok-inner-in-Range.inner) c.in-Range.is c.last_two-high.ensures c.last_two-low.ensures c.in_ok-inner-in-Range.ensures
