use Rattle.std.proofs.Common.{length}
use Rattle.type_texts.proofs.dimensions.+unpacked.Given as goal

-- the dimensions that are left
abbrev pub decreases-unpacked : goal.decreases-unpacked
decreases-unpacked l = length l.dims.now
