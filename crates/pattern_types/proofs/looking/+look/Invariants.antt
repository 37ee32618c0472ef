use Rattle.std.proofs.Common.{◌≡◌, ◌≤◌, drop}
use Rattle.std.specs.Prelude.{flat_map, zip}
use Rattle.expr_type.specs.Answers.{reason, source}
use Rattle.expr_type.specs.Patterns.{tries, types_in}
use Rattle.expr_type.specs.Typings.{all_of}
use Rattle.pattern_types.specs.Leaves.{leaves_of, member_types, wanted_types}
use Rattle.pattern_types.specs.Meaning.{operand_of, written_items}
use Rattle.pattern_laws.specs.Reasons.{followed_by, lesser_tried, tried_over}
use Rattle.pattern_types.specs.Reasons.{reason_of, tried_of}
use Rattle.pattern_types.proofs.looking.+look.Given as goal

abbrev pub invariant-look_at_items-loop-item : goal.invariant-look_at_items-loop-item
invariant-look_at_items-loop-item l =
    let k = source l.text in
    let ps = zip l.taking.takes (types_in l.t) in
    record {
      within : l.n ≤ l.item-index;
      all : followed_by (reason_of l.seen) (reason (all_of (tries k l.taking.count l.taking.rest ps l.n (written_items k (drop l.item-index l.items)))))
          ≡ reason (all_of (tries k l.taking.count l.taking.rest ps 0 (written_items k l.items)));
    }

abbrev pub invariant-look_at_members-loop-n : goal.invariant-look_at_members-loop-n
invariant-look_at_members-loop-n l =
    let k = source l.text in
    lesser_tried (tried_of l.seen) (tried_over k (operand_of k l.v) (wanted_types l.wanted l.taking.count l.taking.rest (zip (drop l.n l.taking.takes) (member_types (drop l.n l.members)))))
    ≡ tried_over k (operand_of k l.v) (wanted_types l.wanted l.taking.count l.taking.rest (zip l.taking.takes (member_types l.members)))

abbrev pub invariant-look_at_all-loop-member : goal.invariant-look_at_all-loop-member
invariant-look_at_all-loop-member l =
    let k = source l.text in
    lesser_tried (tried_of l.seen) (tried_over k (operand_of k l.v) (flat_map (leaves_of l.rest) (member_types (drop l.member-index l.members))))
    ≡ tried_over k (operand_of k l.v) (flat_map (leaves_of l.rest) (member_types l.members))
