use Rattle.break_laws.proofs.Keeping.{keeps-to-bits}
use Rattle.break_laws.proofs.bits_are_there.Goals as goal

pub returns : goal.returns
returns c = keeps-to-bits
