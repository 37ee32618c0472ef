use Rattle.std.proofs.Common.{◌-◌, drop, length, map, replicate}
use Rattle.std.specs.Prelude.{zip}
use Rattle.expr_type.specs.Answers.{source}
use Rattle.expr_type.specs.Patterns.{made}
use Rattle.expr_type.specs.Typings.{all_of}
use Rattle.pattern_types.specs.Filling.{Makes, spread_of}
use Rattle.pattern_types.specs.Leaves.{member_types}
use Rattle.pattern_types.specs.Meaning.{items_in, operand_of, parts_in, tick_of, written_items}
use Rattle.pattern_laws.specs.Reasons.{IsWhole}
use Rattle.pattern_types.proofs.building.+build.Given as goal

abbrev pub invariant-build_members-loop-n : goal.invariant-build_members-loop-n
invariant-build_members-loop-n l =
    let k = source l.text in
    let f = made k (tick_of (parts_in l.p)) (written_items k (items_in (parts_in l.p))) in
    let rest = all_of (map f (zip (drop l.n l.taking.takes) (member_types (drop l.n l.members)))) in
    record {
      whole : IsWhole rest;
      all : Makes l.items rest (all_of (map f (zip l.taking.takes (member_types l.members))));
    }

abbrev pub invariant-build_elements-loop-n : goal.invariant-build_elements-loop-n
invariant-build_elements-loop-n l =
    let k = source l.text in
    let f = made k (tick_of (parts_in l.p)) (written_items k (items_in (parts_in l.p))) in
    let rest = all_of (map f (zip (drop l.n l.taking.takes) (replicate (length (drop l.n l.taking.takes)) l.element))) in
    record {
      whole : IsWhole rest;
      all : Makes l.items rest (all_of (map f (zip l.taking.takes (replicate (length l.taking.takes) l.element))));
    }

abbrev pub invariant-spread_members-loop-member : goal.invariant-spread_members-loop-member
invariant-spread_members-loop-member l =
    let k = source l.text in
    let f = spread_of k l.tick l.rest (operand_of k l.v) in
    let rest = all_of (map f (member_types (drop l.member-index l.members))) in
    record {
      whole : IsWhole rest;
      all : Makes l.items rest (all_of (map f (member_types l.members)));
    }

abbrev pub invariant-spread_elements-loop-n : goal.invariant-spread_elements-loop-n
invariant-spread_elements-loop-n l =
    let k = source l.text in
    let f = spread_of k l.tick l.rest (operand_of k l.v) in
    let rest = all_of (map f (replicate (l.count - l._n) l.element)) in
    record {
      whole : IsWhole rest;
      all : Makes l.items rest (all_of (map f (replicate l.count l.element)));
    }
