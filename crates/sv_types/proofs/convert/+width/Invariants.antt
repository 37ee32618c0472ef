use Rattle.std.proofs.Common.{◌≡◌, ◌≤◌, length, map, drop, ◌+◌, max, min}
use Rattle.sv_types.specs.Layouts.{stacked_marks, widest_marks, member_layout}
use Rattle.sv_types.specs.Values.{member_shape, total, most}
use Rattle.sv_types.proofs.convert.+width.Given as goal

abbrev pub invariant-greatest_width-loop-member : goal.invariant-greatest_width-loop-member
invariant-greatest_width-loop-member l = record {
  small : l.greatest ≤ 4194305;
  bits : min (max l.greatest (length (widest_marks (map member_layout (drop l.member-index l.members))))) 4194305 ≡ min (length (widest_marks (map member_layout l.members))) 4194305;
  shape : min (max l.greatest (most (map member_shape (drop l.member-index l.members)))) 4194305 ≡ min (most (map member_shape l.members)) 4194305;
}

abbrev pub invariant-total_width-loop-member : goal.invariant-total_width-loop-member
invariant-total_width-loop-member l = record {
  small : l.sum ≤ 4194305;
  bits : min (l.sum + length (stacked_marks (map member_layout (drop l.member-index l.members)))) 4194305 ≡ min (length (stacked_marks (map member_layout l.members))) 4194305;
  shape : min (l.sum + total (map member_shape (drop l.member-index l.members))) 4194305 ≡ min (total (map member_shape l.members)) 4194305;
}
