use Rattle.routine_fits.specs.Sound.{AllSoundFunctions}
use Rattle.stmt_laws.proofs.Walk.{statement-sound, block-sound}
use Rattle.stmt_laws.proofs.statements_are_sound.Goals as goal

pub returns : goal.returns
returns c = record { statement = statement-sound AllSoundFunctions; block = block-sound AllSoundFunctions }
