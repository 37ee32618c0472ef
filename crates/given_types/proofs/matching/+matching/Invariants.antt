use Rattle.std.proofs.Common.{◌≡◌, map, drop, length}
use Rattle.pattern_fit.specs.Same.{same_members}
use Rattle.given_types.specs.Matching.{matching_member}
use Rattle.given_types.proofs.matching.+matching.Given as goal

abbrev pub invariant-matching_members-loop-n : goal.invariant-matching_members-loop-n
invariant-matching_members-loop-n l = record {
  lengths : length l.a ≡ length l.b;
  same : same_members (map matching_member (drop l.n l.a)) (drop l.n l.b) ≡ same_members (map matching_member l.a) l.b;
}
