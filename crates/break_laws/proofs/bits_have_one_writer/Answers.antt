use Rattle.break_laws.proofs.Writers.{one-writer}
use Rattle.break_laws.proofs.bits_have_one_writer.Goals as goal

pub returns : goal.returns
returns c = one-writer
