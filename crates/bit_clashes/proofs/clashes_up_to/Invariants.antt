use Rattle.std.proofs.Common.{◌≡◌, drop}
use Rattle.bit_clashes.specs.Clashes.{sweep, start}
use Rattle.bit_clashes.proofs.clashes_up_to.Given as goal

abbrev pub invariant-loop-p : goal.invariant-loop-p
invariant-loop-p l = sweep l.limit l.reach (drop l.p-index l.pieces) ≡ sweep l.limit start l.pieces
