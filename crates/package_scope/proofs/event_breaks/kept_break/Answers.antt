use Rattle.std.proofs.Common.{ap, ◌∙◌}
use Rattle.package_scope.specs.Least.{joined}
use Rattle.package_scope.specs.Rules.{least, breaks_if}
use Rattle.package_scope.proofs.Orders.{kept-more}
use Rattle.package_scope.proofs.event_breaks.kept_break.Goals as goal

pub loop-at-preserved : goal.loop-at-preserved
loop-at-preserved c =
    kept-more c.args.tokens.now c.loop-at.at c.index-tokens-at.result c.loop-at.least c.first-least.result c.loop-at-test.true c.index-tokens-at.is
    (c.first-least.ensures ∙ ap (λ o. joined c.loop-at.least o) (c.break_if.ensures ∙ ap (λ b. least (breaks_if b 404 c.loop-at.at)) c.is_kept.ensures))
    ∙ c.loop-at.invariant
