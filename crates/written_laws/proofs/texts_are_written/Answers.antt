use Rattle.written_laws.proofs.Texts.{tree-written, all-routines, head-written, items-written}
use Rattle.written_laws.proofs.texts_are_written.Goals as goal

pub returns : goal.returns
returns c = record { tree = tree-written; each = all-routines; head = head-written; items = items-written }
