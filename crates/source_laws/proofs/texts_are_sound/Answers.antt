use Rattle.source_laws.proofs.Texts.{texts-sound}
use Rattle.source_laws.proofs.texts_are_sound.Goals as goal

pub returns : goal.returns
returns c = record { texts = texts-sound }
