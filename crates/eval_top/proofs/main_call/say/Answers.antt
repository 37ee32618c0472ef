use Rattle.std.proofs.Common.{refl}
use Rattle.endings.specs.Ends.{said, unsaid}
use Rattle.eval_top.proofs.main_call.say.Goals as goal

pub returns-in-Ok-clause-says : goal.returns-in-Ok-clause-says
returns-in-Ok-clause-says g c = said c.in-Ok.ensures.bytes c.stop_status.ensures.is

pub returns-in-Failed-clause-says : goal.returns-in-Failed-clause-says
returns-in-Failed-clause-says g c = unsaid (record { front = c.in-Failed.ensures.bytes; rose = c.in-Failed.ensures.cause }) refl
