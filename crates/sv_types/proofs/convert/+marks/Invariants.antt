use Rattle.std.proofs.Common.{◌≡◌, ◌≤◌, ◌++◌, length, map, drop}
use Rattle.sv_types.specs.Layouts.{layout, member_layout, stacked_marks, widest_marks, repeated}
use Rattle.sv_types.proofs.convert.+marks.Given as goal

abbrev pub invariant-push_repeated-loop-i : goal.invariant-push_repeated-loop-i
invariant-push_repeated-loop-i l = l.to.items ≡ l.initial.to.items ++ repeated l._i (layout l.item).two_state

abbrev pub invariant-member_marks-loop-i : goal.invariant-member_marks-loop-i
invariant-member_marks-loop-i l = (l.i ≤ length l.members) × (l.marks.items ≡ stacked_marks (map member_layout (drop l.i l.members)))

abbrev pub decreases-member_marks-loop-i : goal.decreases-member_marks-loop-i
decreases-member_marks-loop-i l = l.i

abbrev pub invariant-widest_member-loop-i : goal.invariant-widest_member-loop-i
invariant-widest_member-loop-i l = (l.i ≤ length l.members) × (l.widest.items ≡ widest_marks (map member_layout (drop l.i l.members)))

abbrev pub decreases-widest_member-loop-i : goal.decreases-widest_member-loop-i
decreases-widest_member-loop-i l = l.i
