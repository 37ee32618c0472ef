use Rattle.typing_fits.proofs.Numbers.{type-sound, size-sound, signed-sound, bits-number-sound, clog2-sound}
use Rattle.typing_fits.proofs.casts_are_sound.Goals as goal

pub returns : goal.returns
returns c = record { to_type = type-sound; to_size = size-sound; to_sign = signed-sound; bits = bits-number-sound; clog2 = clog2-sound }
