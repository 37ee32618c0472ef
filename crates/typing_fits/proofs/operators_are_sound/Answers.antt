use Rattle.typing_fits.proofs.Operators.{binary-sound, unary-sound}
use Rattle.typing_fits.proofs.Joins.{choice-sound, inside-sound, concat-sound, repeat-sound, stream-sound}
use Rattle.typing_fits.proofs.operators_are_sound.Goals as goal

pub returns : goal.returns
returns c = record { binary = binary-sound; unary = unary-sound; choice = choice-sound; inside = inside-sound; concat = concat-sound; repeat = repeat-sound; stream = stream-sound }
