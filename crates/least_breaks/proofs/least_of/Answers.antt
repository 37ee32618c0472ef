use Rattle.std.proofs.Common.{◌+◌, sym, ap, ◌∙◌, drop}
use Rattle.least_breaks.specs.Least.{least_from}
use Rattle.least_breaks.proofs.Tokens.{is-least, least-at, least-none}
use Rattle.least_breaks.proofs.least_of.Goals as goal

pub loop-at-preserved : goal.loop-at-preserved
loop-at-preserved c =
    ap (λ r. least_from r (drop (c.loop-at.at-index + 1) c.args.tokens.now)) c.with_token-least.ensures
    ∙ least-at c.loop-at.least c.args.tokens.now c.loop-at.at-index c.loop-at-test.true
    ∙ c.loop-at.invariant

pub returns : goal.returns
returns c = is-least c.args.tokens.now c.loop-at.least (sym c.loop-at.invariant ∙ least-none c.loop-at.least c.args.tokens.now c.loop-at.at-index c.loop-at-test.false)
