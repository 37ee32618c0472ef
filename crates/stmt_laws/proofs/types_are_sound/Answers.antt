use Rattle.routine_fits.specs.Sound.{AllSoundFunctions}
use Rattle.stmt_laws.proofs.Declared.{text-keeps, selected-keeps, declared-keeps, names-sound}
use Rattle.stmt_laws.proofs.types_are_sound.Goals as goal

pub returns : goal.returns
returns c = record {
  text = text-keeps AllSoundFunctions;
  selected = selected-keeps AllSoundFunctions;
  declared = declared-keeps AllSoundFunctions;
  behind = names-sound AllSoundFunctions;
}
