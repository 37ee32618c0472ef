use Rattle.std.proofs.Common.{◌≡◌, ◌+◌, length, map, drop}
use Rattle.sv_types.specs.Layouts.{member_layout, stacked_marks}
use Rattle.eval_parts.proofs.fields.total_width.Given as goal

abbrev pub invariant-loop-member : goal.invariant-loop-member
invariant-loop-member l = l.sum + length (stacked_marks (map member_layout (drop l.member-index l.members))) ≡ length (stacked_marks (map member_layout l.members))
