use Rattle.typing_fits.proofs.Given.{sound-fits, alone-fits, for-fits, knows-itself, extends-more, sound-later, operand-later}
use Rattle.typing_fits.proofs.sound_expressions_fit.Goals as goal

pub returns : goal.returns
returns c = record {
  alone = sound-fits;
  by_itself = alone-fits;
  given = for-fits;
  knows = knows-itself;
  more = extends-more;
  later = sound-later;
  operand_later = operand-later;
}
