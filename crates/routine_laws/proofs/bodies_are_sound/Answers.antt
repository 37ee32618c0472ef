use Rattle.routine_fits.specs.Sound.{AllSoundFunctions}
use Rattle.routine_laws.proofs.LocalWalk.{statement-writes}
use Rattle.routine_laws.proofs.Routines.{body-keeps}
use Rattle.routine_laws.proofs.bodies_are_sound.Goals as goal

pub returns : goal.returns
returns c = record { statement = statement-writes AllSoundFunctions; body = body-keeps AllSoundFunctions }
