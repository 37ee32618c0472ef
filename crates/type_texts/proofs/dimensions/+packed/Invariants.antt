use Rattle.std.proofs.Common.{length}
use Rattle.type_texts.proofs.dimensions.+packed.Given as goal

-- the dimensions that are left
abbrev pub decreases-packed : goal.decreases-packed
decreases-packed l = length l.dims.now
