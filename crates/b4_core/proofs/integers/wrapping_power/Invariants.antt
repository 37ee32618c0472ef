use Rattle.std.proofs.Common.{◌≡◌, ◌*◌, ◌%◌, ◌^◌, ◌<◌}
use Rattle.b4_core.proofs.integers.wrapping_power.Given as goal

abbrev pub invariant-loop-left : goal.invariant-loop-left
invariant-loop-left l = ((l.power * l.square ^ l.left) % 2 ^ 128 ≡ (l.base ^ l.exponent) % 2 ^ 128) × (l.power < 2 ^ 128)

abbrev pub decreases-loop-left : goal.decreases-loop-left
decreases-loop-left l = l.left
