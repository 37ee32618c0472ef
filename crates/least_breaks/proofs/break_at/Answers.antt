use Rattle.std.proofs.Common.{subst}
use Rattle.least_breaks.specs.Least.{IsLeastToken}
use Rattle.least_breaks.proofs.Comparing.{some-at}
use Rattle.least_breaks.proofs.break_at.Goals as goal

pub returns-in-Some : goal.returns-in-Some
returns-in-Some c = λ ts h. some-at c.args.instance c.args.rule ts c.in-Some.at (subst (IsLeastToken ts) c.in-Some.is h)
