use Rattle.std.proofs.Common.{◌≡◌, ◌-◌, ◌++◌, ◌≤◌, length, drop, map, reverse}
use Rattle.sv_types.specs.declared.types.Member.{Member}
use Rattle.sv_types.specs.Layouts.{width_of}
use Rattle.function_breaks.specs.Owed as spec
use Rattle.function_breaks.proofs.results.members.Given as goal

abbrev pub invariant-loop-k : goal.invariant-loop-k
invariant-loop-k l = record {
  low : l.low ≤ l.end;
  uses : l.uses ++ spec.member_uses l.end l.low (drop l.k (reverse (map (λ (m : Member). width_of m.of) l.members))) (drop l.k (reverse l.spots))
      ≡ spec.member_uses l.end 0 (reverse (map (λ (m : Member). width_of m.of) l.members)) (reverse l.spots);
}

abbrev pub decreases-loop-k : goal.decreases-loop-k
decreases-loop-k l = length l.members - l.k
