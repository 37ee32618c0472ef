use Rattle.std.proofs.Common.{◌≡◌, ◌++◌, map, drop}
use Rattle.enum_types.specs.Taken.{character}
use Rattle.enum_types.proofs.taken.key.Given as goal

abbrev pub invariant-loop-b : goal.invariant-loop-b
invariant-loop-b l = l.made ++ map character (drop l.b-index l.bits) ≡ map character l.bits
