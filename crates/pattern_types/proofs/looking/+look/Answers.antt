use Rattle.std.proofs.Common.{◌≡◌, ◌≤◌, ◌+◌, List, IfOk, arith, rules, replicate, ap, sym, ◌∙◌, subst}
use Rattle.std.specs.Prelude.{zip}
use Rattle.std.specs.List.{list_any}
use Rattle.sv_types.specs.Layouts.{count_of}
use Rattle.pattern_fit.specs.declared.pattern.PatternItem.{PatternItem}
use Rattle.expr_type.specs.Answers.{source}
use Rattle.expr_type.specs.Patterns.{types_in}
use Rattle.pattern_types.specs.Leaves.{member_types, number_behind, wants}
use Rattle.pattern_types.specs.Meaning.{operand_of, parts_in, tick_of}
use Rattle.pattern_types.specs.Reasons.{reason_of, tried_of}
use Rattle.pattern_types.proofs.Fitting.{taking-length, taking-looks}
use Rattle.pattern_types.proofs.Fronts.{read-so}
use Rattle.pattern_types.proofs.Levels.{types-PackedArray, types-Struct, types-UnpackedArray}
use Rattle.pattern_types.proofs.Showing.{none-tried, some-tried}
use Rattle.pattern_types.proofs.Stepping.{array-leaves, item-next, leaf-next, member-not, member-wanted, number-within, over-types}
use Rattle.pattern_types.proofs.Values.{pattern-shown}
use Rattle.pattern_types.proofs.looking.+look.Goals.{look_at_members-then-wants+in_ok-look, look_at_members-else-wants}
use Rattle.pattern_types.proofs.looking.+look.Goals as goal

pub look_at_value-returns-in-Pattern : goal.look_at_value-returns-in-Pattern
look_at_value-returns-in-Pattern t c =
    pattern-shown (source c.args.text) c.args.t.now c.args.v.now (parts_in c.listed.result) _ _ _ c.look_at_pattern.result c.in-Pattern.is c.listed.ensures c.look_at_pattern.ensures

pub look_at_pattern-look_at_items-items-requires : goal.look_at_pattern-look_at_items-items-requires
look_at_pattern-look_at_items-items-requires t c = (search rules, taking-length (source c.args.text) (parts_in c.args.p) c.args.t.now c.in-Ok.taking c.in-Ok.ensures)

pub look_at_pattern-returns-in_ok-items-in-Ok : goal.look_at_pattern-returns-in_ok-items-in-Ok
look_at_pattern-returns-in_ok-items-in-Ok t c =
    c.length_behind.ensures
    ∙ taking-looks (source c.args.text) (parts_in c.args.p) (tick_of (parts_in c.args.p)) c.args.t.now c.in-Ok.taking (reason_of c.in_ok-items-in-Ok.field-0) c.in-Ok.ensures c.in_ok-items-in-Ok.ensures

pub look_at_items-loop-item-preserved : goal.look_at_items-loop-item-preserved
look_at_items-loop-item-preserved t c =
    let n = c.loop-item.n in
    let w = c.wanted_at-wanted.result in
    let b : number_behind w n ≤ n + 1 = number-within w n in
    let e : c.number_behind-n.result ≡ number_behind w n = c.number_behind-n.ensures in
    record {
      within = omega (arith, e, b, c.loop-item.invariant.within);
      all =
          item-next (source c.args.text) c.args.taking.now.count c.args.taking.now.rest (zip c.args.taking.now.takes (types_in c.args.t.now)) c.args.items.now c.loop-item.item-index n c.number_behind-n.result c.item-item.result w
          (reason_of c.loop-item.seen) (reason_of c.followed_by-seen.result) (reason_of c.or_alone.result) (tried_of c.in_ok-tried.tried) _ (omega arith) c.item-item.is c.wanted_at-wanted.ensures c.number_behind-n.ensures
          c.in_ok-tried.ensures c.or_alone.ensures c.followed_by-seen.ensures c.loop-item.invariant.all;
    }

pub look_at_members-loop-n-preserved : goal.look_at_members-loop-n-preserved
look_at_members-loop-n-preserved t c =
    let k = source c.args.text in
    let v = operand_of k c.args.v.now in
    let count = c.args.taking.now.count in
    let rest = c.args.taking.now.rest in
    let takes = c.args.taking.now.takes in
    let ms = c.args.members.now in
    let n = c.loop-n.n in
    elim c.if-wants.branch [
      | look_at_members-then-wants+in_ok-look w ↦
          member-wanted k v c.args.wanted count rest takes ms n _ c.index-members-n.result (tried_of c.loop-n.seen) (tried_of c.if-wants.seen) (tried_of w.in_ok-look.look) _ (omega (arith, c.requires.long)) (omega arith)
          (read-so c.as_slice-takes.result.now takes n _ c.as_slice-takes.ensures (omega (arith, c.requires.long))) c.index-members-n.is (sym c.wants.ensures ∙ w.if-wants.true) w.in_ok-look.ensures
          (ap tried_of w.seen-is ∙ w.lesser_tried-seen.ensures) c.loop-n.invariant
      | look_at_members-else-wants w ↦
          member-not k v c.args.wanted count rest takes ms n _ c.index-members-n.result (tried_of c.loop-n.seen) (tried_of c.if-wants.seen) _ (omega (arith, c.requires.long)) (omega arith)
          (read-so c.as_slice-takes.result.now takes n _ c.as_slice-takes.ensures (omega (arith, c.requires.long))) c.index-members-n.is (sym c.wants.ensures ∙ w.if-wants.false) (ap tried_of w.seen-is) c.loop-n.invariant
    ]

pub look_at_elements-returns-then-not-any_wants : goal.look_at_elements-returns-then-not-any_wants
look_at_elements-returns-then-not-any_wants t c =
    let k = source c.args.text in
    let takes = c.args.taking.now.takes in
    let count = c.args.taking.now.count in
    sym (none-tried k (operand_of k c.args.v.now) c.args.wanted count c.args.taking.now.rest takes c.args.element.now
    (sym (ap (λ (xs : List PatternItem). list_any (wants c.args.wanted count) xs) c.as_slice.ensures) ∙ sym c.any_wants.ensures ∙ c.if-not-any_wants.true))

pub look_at_elements-returns : goal.look_at_elements-returns
look_at_elements-returns t c =
    let k = source c.args.text in
    let takes = c.args.taking.now.takes in
    let count = c.args.taking.now.count in
    subst (λ o. IfOk c.look_at_place.result (λ l. tried_of l ≡ o))
    (sym (some-tried k (operand_of k c.args.v.now) c.args.wanted count c.args.taking.now.rest takes c.args.element.now
    (sym (ap (λ (xs : List PatternItem). list_any (wants c.args.wanted count) xs) c.as_slice.ensures) ∙ sym c.any_wants.ensures ∙ c.if-not-any_wants.false))) c.look_at_place.ensures

pub look_at_leaves-returns-in-Struct : goal.look_at_leaves-returns-in-Struct
look_at_leaves-returns-in-Struct t c =
    let k = source c.args.text in
    subst (λ o. IfOk c.look_at_all.result (λ l. tried_of l ≡ o))
    (over-types k (operand_of k c.args.v.now) c.args.rest.now c.args.t.now (member_types c.as_slice.result.now) (sym c.takes_itself.ensures ∙ c.if-takes_itself.false)
    (ap types_in c.in-Struct.is ∙ types-Struct _ _ _ c.in-Struct.members ∙ sym (ap member_types c.as_slice.ensures))) c.look_at_all.ensures

pub look_at_leaves-returns-in-PackedArray : goal.look_at_leaves-returns-in-PackedArray
look_at_leaves-returns-in-PackedArray t c =
    let k = source c.args.text in
    subst (λ o. IfOk c.look_at_leaves.result (λ l. tried_of l ≡ o))
    (array-leaves k (operand_of k c.args.v.now) c.args.rest.now c.args.t.now c.get.result.now c.in-PackedArray.left c.in-PackedArray.right (sym c.takes_itself.ensures ∙ c.if-takes_itself.false)
    (ap types_in c.in-PackedArray.is ∙ types-PackedArray c.in-PackedArray.left c.in-PackedArray.right _ c.in-PackedArray.item ∙ sym (ap (replicate (count_of c.in-PackedArray.left c.in-PackedArray.right)) c.get.ensures)))
    c.look_at_leaves.ensures

pub look_at_leaves-returns-in-UnpackedArray : goal.look_at_leaves-returns-in-UnpackedArray
look_at_leaves-returns-in-UnpackedArray t c =
    let k = source c.args.text in
    let l = c.in-UnpackedArray.left in
    let r = c.in-UnpackedArray.right in
    subst (λ o. IfOk c.look_at_leaves-in-UnpackedArray.result (λ x. tried_of x ≡ o))
    (array-leaves k (operand_of k c.args.v.now) c.args.rest.now c.args.t.now c.get-in-UnpackedArray.result.now l r (sym c.takes_itself.ensures ∙ c.if-takes_itself.false)
    (ap types_in c.in-UnpackedArray.is ∙ types-UnpackedArray l r c.in-UnpackedArray.item ∙ sym (ap (replicate (count_of l r)) c.get-in-UnpackedArray.ensures)))
    c.look_at_leaves-in-UnpackedArray.ensures

pub look_at_all-loop-member-preserved : goal.look_at_all-loop-member-preserved
look_at_all-loop-member-preserved t c =
    let k = source c.args.text in
    leaf-next k (operand_of k c.args.v.now) c.args.rest.now c.args.members.now c.loop-member.member-index c.member-item.result (tried_of c.loop-member.seen) (tried_of c.lesser_tried-seen.result) (tried_of c.in_ok-look.look) _ (omega arith)
    c.member-item.is c.in_ok-look.ensures c.lesser_tried-seen.ensures c.loop-member.invariant
