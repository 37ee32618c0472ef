use Rattle.std.proofs.Common.{arith}
use Rattle.known_indices.proofs.Numbers.{bits-long}
use Rattle.known_indices.proofs.known.unheld_number.Goals as goal

pub index_of-number-requires : goal.index_of-number-requires
index_of-number-requires c = let n = bits-long c.args.functions.now c.args.i.now c.in-Ok.bits c.in-Ok.ensures in omega (arith, n, c.requires.short)
