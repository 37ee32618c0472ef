-- Frames that can be typed in.
use Rattle.sv_types.specs.declared.frame.Frame.{Frame}
use Rattle.typing_fits.specs.Operands.{AllSignalsSound, AllTypesFull, AllValuesSound}

-- signals, but for members of interfaces, and values of at most 2^22 bits, and no type without a bit
pub record SoundFrame (f : Frame) : Type 0 where
  pub values : AllValuesSound f.values
  pub types : AllTypesFull f.types
  pub signals : AllSignalsSound f.signals
