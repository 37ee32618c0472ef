use Rattle.std.proofs.Common.{◌≡◌, ◌-◌, ◌^◌, ◌<◌, ◌≤◌, ◌++◌, length, drop, replicate}
use Rattle.b4_core.specs.declared.bit.Bit4.TheVariants.{Zero}
use Rattle.b4_planes.specs.Planes.{word_bits}
use Rattle.b4_planes.proofs.words.pack.Given as goal

abbrev pub invariant-loop-i : goal.invariant-loop-i
invariant-loop-i l = record {
  within : l.i ≤ length l.bits;
  value : l.value < 2 ^ (64 - l.i);
  unknown : l.unknown < 2 ^ (64 - l.i);
  bits : word_bits (64 - l.i) l.value l.unknown ≡ drop l.i l.bits ++ replicate (64 - length l.bits) Zero;
}

abbrev pub decreases-loop-i : goal.decreases-loop-i
decreases-loop-i l = l.i
