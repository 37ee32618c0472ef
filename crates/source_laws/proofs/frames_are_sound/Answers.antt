use Rattle.source_laws.proofs.Texts.{context-sound, functions-sound, text-around, behind-around}
use Rattle.source_laws.proofs.frames_are_sound.Goals as goal

pub returns : goal.returns
returns c = record { names = context-sound; functions = functions-sound; text = text-around; behind = behind-around }
