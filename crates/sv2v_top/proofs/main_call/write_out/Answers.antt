use Rattle.std.proofs.Common.{refl}
use Rattle.sv2v_top.specs.Endings.{written, unwritten}
use Rattle.sv2v_top.proofs.Runs.{fault-said, took-same, front-same}
use Rattle.sv2v_top.proofs.main_call.write_out.Goals as goal

pub returns-in-Ok-clause-writes : goal.returns-in-Ok-clause-writes
returns-in-Ok-clause-writes g c = written (took-same _ _ c.as_bytes.ensures c.in-Ok.ensures.bytes) refl refl

pub returns-in-Failed-clause-writes : goal.returns-in-Failed-clause-writes
returns-in-Failed-clause-writes g c =
    unwritten (record { front = front-same _ _ c.as_bytes.ensures c.in-Failed.ensures.bytes; rose = c.in-Failed.ensures.cause }) (fault-said c.put_write_fault.result c.put_write_fault.ensures.bytes c.put_write_fault.ensures.cause) refl
