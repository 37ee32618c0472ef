use Rattle.break_laws.proofs.Early.{not-early}
use Rattle.break_laws.proofs.nothing_is_read_early.Goals as goal

pub returns : goal.returns
returns c = not-early
