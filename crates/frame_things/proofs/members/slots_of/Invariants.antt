use Rattle.std.proofs.Common.{◌≡◌, ℕ, ◌≤◌, List, drop, length}
use Rattle.frame_things.specs.Members.{member_from, under}
use Rattle.frame_things.proofs.members.slots_of.Given as goal

abbrev pub invariant-loop-at : goal.invariant-loop-at
invariant-loop-at l = record {
  places : (n : ℕ) (q : List ℕ) → under l.names l.slots n q ≡ member_from l.at n q (drop l.at l.list);
  within : l.at ≤ length l.list;
}

abbrev pub decreases-loop-at : goal.decreases-loop-at
decreases-loop-at l = l.at
