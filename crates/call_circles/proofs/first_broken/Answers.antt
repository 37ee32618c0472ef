use Rattle.std.proofs.Common.{◌∙◌}
use Rattle.call_circles.proofs.Fitting.{known-first}
use Rattle.call_circles.proofs.first_broken.Goals as goal

pub returns-then-branch : goal.returns-then-branch
returns-then-branch c =
    c.first_broken.ensures ∙ known-first c.args.calls.now c.args.needs.now c.in_ok-known.known (c.in_ok-fits.ensures c.if-branch.true)
