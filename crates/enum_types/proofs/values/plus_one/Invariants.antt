use Rattle.std.proofs.Common.{◌≡◌, ◌++◌, drop, true}
use Rattle.enum_types.specs.Bits.{carried}
use Rattle.enum_types.proofs.values.plus_one.Given as goal

-- what is made, and what is left with the carry
abbrev pub invariant-loop-b : goal.invariant-loop-b
invariant-loop-b l = l.made.items ++ carried l.carry (drop l.b-index l.v) ≡ carried true l.v
