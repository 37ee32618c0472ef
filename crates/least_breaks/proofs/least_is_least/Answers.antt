use Rattle.least_breaks.proofs.Comparing.{least-is-least}
use Rattle.least_breaks.proofs.least_is_least.Goals as goal

pub returns : goal.returns
returns c = least-is-least
