use Rattle.std.proofs.Common.{arith}
use Rattle.target_walk.proofs.Rooming.{pow-more}
use Rattle.target_walk.proofs.room.room_of.Goals as goal

pub returns-clause-image : goal.returns-clause-image
returns-clause-image c = (let more = pow-more c.bits_for.result c.max.result (omega arith) in let fits = c.bits_for.ensures.fits in omega arith)
