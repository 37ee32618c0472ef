use Rattle.routine_fits.specs.Sound.{AllSoundFunctions}
use Rattle.stmt_laws.proofs.Declared.{variables-keep, parameters-keep, behind-sound}
use Rattle.stmt_laws.proofs.declarations_are_sound.Goals as goal

pub returns : goal.returns
returns c = record {
  variables = variables-keep AllSoundFunctions;
  parameters = parameters-keep AllSoundFunctions;
  behind = behind-sound AllSoundFunctions;
}
