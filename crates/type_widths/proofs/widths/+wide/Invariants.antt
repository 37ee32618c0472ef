use Rattle.std.proofs.Common.{◌≡◌, ◌+◌, max, length, map, drop}
use Rattle.sv_types.specs.Layouts.{stacked_marks, widest_marks, member_layout}
use Rattle.type_widths.specs.Limbs.{number}
use Rattle.type_widths.proofs.widths.+wide.Given as goal

abbrev pub invariant-wide_struct-loop-member : goal.invariant-wide_struct-loop-member
invariant-wide_struct-loop-member l =
    number l.sum + length (stacked_marks (map member_layout (drop l.member-index l.members))) ≡ length (stacked_marks (map member_layout l.fn.members))

abbrev pub invariant-wide_union-loop-member : goal.invariant-wide_union-loop-member
invariant-wide_union-loop-member l =
    max (number l.greatest) (length (widest_marks (map member_layout (drop l.member-index l.members)))) ≡ length (widest_marks (map member_layout l.fn.members))
