use Rattle.std.proofs.Common.{◌≡◌, map, drop}
use Rattle.std.specs.List.{list_all}
use Rattle.sv_types.specs.Layouts.{member_layout, stacked_marks}
use Rattle.type_kinds.proofs.elements.+states.Given as goal

abbrev pub invariant-are_two_state-loop-member : goal.invariant-are_two_state-loop-member
invariant-are_two_state-loop-member l =
    list_all (λ b. b) (stacked_marks (map member_layout (drop l.member-index l.members)))
    ≡ list_all (λ b. b) (stacked_marks (map member_layout l.fn.members))
