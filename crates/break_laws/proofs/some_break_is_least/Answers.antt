use Rattle.break_laws.proofs.Standing.{some-least}
use Rattle.break_laws.proofs.some_break_is_least.Goals as goal

pub returns : goal.returns
returns c = some-least
