use Rattle.std.proofs.Common.{◌≡◌, ◌-◌, ◌++◌}
use Rattle.b4_planes.specs.Planes.{word_bits}
use Rattle.b4_planes.proofs.words.unpack.Given as goal

abbrev pub invariant-loop-i : goal.invariant-loop-i
invariant-loop-i l = l.bits.items ++ word_bits (64 - l._i) l.v l.u ≡ l.fn.bits.items ++ word_bits 64 l.value l.unknown
