use Rattle.typing_fits.proofs.Given.{value-sound, bits-sound, parenthesized-sound, unstreamed-sound, given-sound, passed-sound, constant-value-sound, constant-sound, constant-alone-sound}
use Rattle.typing_fits.proofs.Patterns.{fitted-sound}
use Rattle.typing_fits.proofs.Calls.{call-sound}
use Rattle.typing_fits.proofs.operands_are_sound.Goals as goal

pub returns : goal.returns
returns c = record {
  value = value-sound;
  bits = bits-sound;
  parenthesized = parenthesized-sound;
  unstreamed = unstreamed-sound;
  given = given-sound;
  passed = passed-sound;
  constant = constant-value-sound;
  constant_given = constant-sound;
  constant_alone = constant-alone-sound;
  pattern = fitted-sound;
  call = call-sound;
}
