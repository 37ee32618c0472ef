use Rattle.std.proofs.Common.{◌≡◌, ◌^◌}
use Rattle.target_walk.proofs.room.bits_for.Given as goal

abbrev pub invariant-loop-bits : goal.invariant-loop-bits
invariant-loop-bits l = l.power ≡ 2 ^ l.bits
