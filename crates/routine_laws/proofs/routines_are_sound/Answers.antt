use Rattle.routine_fits.specs.Sound.{AllSoundFunctions}
use Rattle.routine_fits.proofs.Functions.{one-more}
use Rattle.routine_laws.proofs.Routines.{text-keeps, known-sound, routine-keeps, surrounded}
use Rattle.routine_laws.proofs.routines_are_sound.Goals as goal

pub returns : goal.returns
returns c = record { text = text-keeps AllSoundFunctions; one_more = one-more; known = known-sound; needed = routine-keeps; surrounded = surrounded }
