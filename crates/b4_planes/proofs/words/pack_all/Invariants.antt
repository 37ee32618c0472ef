use Rattle.std.proofs.Common.{length, ◌-◌}
use Rattle.b4_planes.proofs.Packed.{Packed}
use Rattle.b4_planes.proofs.words.pack_all.Given as goal

abbrev pub invariant-loop-at : goal.invariant-loop-at
invariant-loop-at l = Packed l.at l.bits l.values.items l.unknowns.items

abbrev pub decreases-loop-at : goal.decreases-loop-at
decreases-loop-at l = length l.bits - l.at
