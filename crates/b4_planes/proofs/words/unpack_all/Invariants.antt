use Rattle.std.proofs.Common.{◌≡◌, ◌++◌, drop}
use Rattle.b4_planes.specs.Planes.{plane_bits}
use Rattle.b4_planes.proofs.words.unpack_all.Given as goal

abbrev pub invariant-loop-i : goal.invariant-loop-i
invariant-loop-i l = l.bits.items ++ plane_bits (drop l.i l.values) (drop l.i l.unknowns) ≡ plane_bits l.values l.unknowns
