use Rattle.std.proofs.Common.{refl}
use Rattle.endings.specs.Ends.{written, unwritten}
use Rattle.endings.proofs.Saying.{fault-said}
use Rattle.endings.proofs.writing.write_out.Goals as goal

pub returns-in-Ok-clause-writes : goal.returns-in-Ok-clause-writes
returns-in-Ok-clause-writes g c = written c.in-Ok.ensures.bytes refl refl

pub returns-in-Failed-clause-writes : goal.returns-in-Failed-clause-writes
returns-in-Failed-clause-writes g c =
    unwritten (record { front = c.in-Failed.ensures.bytes; rose = c.in-Failed.ensures.cause }) (fault-said c.put_write_fault.result c.put_write_fault.ensures.bytes c.put_write_fault.ensures.cause) refl
