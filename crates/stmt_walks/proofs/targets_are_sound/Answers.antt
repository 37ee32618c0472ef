use Rattle.routine_fits.specs.Sound.{AllSoundFunctions}
use Rattle.stmt_walks.proofs.Targets.{target-sound, parts-fit}
use Rattle.stmt_walks.proofs.targets_are_sound.Goals as goal

pub returns : goal.returns
returns c = record { sound = λ k inside l r w. target-sound AllSoundFunctions l w k inside r; fits = parts-fit }
