use Rattle.typing_fits.proofs.Names.{thing-sound}
use Rattle.typing_fits.proofs.Numbers.{constant-value, value-long, decimal-sound, based-sound, sized-sound, fill-sound}
use Rattle.typing_fits.proofs.Selects.{signal-sound, local-sound}
use Rattle.typing_fits.proofs.values_are_sound.Goals as goal

pub returns : goal.returns
returns c = record {
  thing = thing-sound;
  signal = signal-sound;
  local = local-sound;
  constant = constant-value;
  value = value-long;
  decimal = decimal-sound;
  based = based-sound;
  sized = sized-sound;
  fill = fill-sound;
}
