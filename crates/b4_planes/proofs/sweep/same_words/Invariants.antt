use Rattle.std.proofs.Common.{length, ◌-◌, ◌≤◌, ◌≡◌, take}
use Rattle.b4_planes.proofs.sweep.same_words.Given as goal

abbrev pub invariant-chunks : goal.invariant-chunks
invariant-chunks l = record { within : l.at ≤ length l.a; same : take l.at l.a ≡ take l.at l.b }

abbrev pub decreases-chunks : goal.decreases-chunks
decreases-chunks l = length l.a - l.at

abbrev pub invariant-rest : goal.invariant-rest
invariant-rest l = record { within : l.at ≤ length l.a; same : take l.at l.a ≡ take l.at l.b }

abbrev pub decreases-rest : goal.decreases-rest
decreases-rest l = length l.a - l.at
