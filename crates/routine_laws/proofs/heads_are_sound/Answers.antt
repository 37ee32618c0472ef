use Rattle.routine_fits.specs.Sound.{AllSoundFunctions}
use Rattle.routine_laws.proofs.Heads.{formals-keep, head-keeps, behind-sound}
use Rattle.routine_laws.proofs.heads_are_sound.Goals as goal

pub returns : goal.returns
returns c = record { formals = formals-keep AllSoundFunctions; head = head-keeps AllSoundFunctions; behind = behind-sound AllSoundFunctions }
