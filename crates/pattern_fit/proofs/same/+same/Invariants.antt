use Rattle.std.proofs.Common.{◌≡◌, map, drop, length}
use Rattle.pattern_fit.specs.Same.{same_members, of_member}
use Rattle.pattern_fit.proofs.same.+same.Given as goal

abbrev pub invariant-same_members-loop-n : goal.invariant-same_members-loop-n
invariant-same_members-loop-n l = record {
  lengths : length l.a ≡ length l.b;
  same : same_members (map of_member (drop l.n l.a)) (drop l.n l.b) ≡ same_members (map of_member l.a) l.b;
}
