use Rattle.typing_fits.proofs.Selects.{stepped-sound, index-sound}
use Rattle.typing_fits.proofs.selects_are_sound.Goals as goal

pub returns : goal.returns
returns c = record { step = stepped-sound; index = index-sound }
