use Rattle.std.proofs.Common.{rules, ap, sym, ◌∙◌, inl, inr}
use Rattle.std.specs.Prelude.{int_le}
use Rattle.std.proofs.lemmas.Int.{to_z-of_z}
use mir.Val.{SFits, to_z, of_z}
use mir.Syntax.{w64}
use Rattle.typed_paths.proofs.Typing.{one-number, one-test, part-none, part-left, part-right, part-element, part-goes, part-is}
use Rattle.typed_paths.proofs.types.is_part_type.Goals as goal

pub returns-then-not-has_elements : goal.returns-then-not-has_elements
returns-then-not-has_elements c = part-none c.args.t.now c.args.from.now c.args.left c.args.right c.if-not-has_elements.ensures

pub returns-then-own-left : goal.returns-then-own-left
returns-then-own-left c =
    part-left c.args.t.now c.args.from.now c.args.left c.args.right c.bounds_of-own.result.left c.bounds_of-own.ensures.left (λ e. c.if-own-left.true (ap (of_z w64) e))

pub returns-then-own-right : goal.returns-then-own-right
returns-then-own-right c =
    part-right c.args.t.now c.args.from.now c.args.left c.args.right c.bounds_of-own.result.right c.bounds_of-own.ensures.right (λ e. c.if-own-right.true (ap (of_z w64) e))

pub returns-then-own-whole : goal.returns-then-own-whole
returns-then-own-whole c =
    part-element c.args.t.now c.args.from.now c.args.left c.args.right c.bounds_of-own.result.element c.bounds_of-whole.result.element c.bounds_of-own.ensures.element c.bounds_of-whole.ensures.element c.if-own-whole.true

pub returns-then-left-right : goal.returns-then-left-right
returns-then-left-right c =
    let own_left_fits : SFits w64 c.bounds_of-own.result.left = search rules in
    let own_right_fits : SFits w64 c.bounds_of-own.result.right = search rules in
    let left_fits : SFits w64 c.args.left = search rules in
    let right_fits : SFits w64 c.args.right = search rules in
    part-is c.args.t.now c.args.from.now c.args.left c.args.right c.if-not-has_elements.ensures (sym c.bounds_of-own.ensures.left ∙ one-number c.bounds_of-own.result.left c.args.left own_left_fits left_fits c.if-own-left.false)
    (sym c.bounds_of-own.ensures.right ∙ one-number c.bounds_of-own.result.right c.args.right own_right_fits right_fits c.if-own-right.false)
    (sym c.bounds_of-own.ensures.element ∙ c.if-own-whole.false ∙ c.bounds_of-whole.ensures.element) (inr (one-number c.args.left c.args.right left_fits right_fits c.if-left-right.true))

pub returns-then-falls-whole_falls : goal.returns-then-falls-whole_falls
returns-then-falls-whole_falls c =
    let own_left_fits : SFits w64 c.bounds_of-own.result.left = search rules in
    let own_right_fits : SFits w64 c.bounds_of-own.result.right = search rules in
    let whole_left_fits : SFits w64 c.bounds_of-whole.result.left = search rules in
    let whole_right_fits : SFits w64 c.bounds_of-whole.result.right = search rules in
    let own_left = to_z-of_z w64 c.bounds_of-own.result.left own_left_fits ∙ c.bounds_of-own.ensures.left in
    let own_right = to_z-of_z w64 c.bounds_of-own.result.right own_right_fits ∙ c.bounds_of-own.ensures.right in
    let whole_left = to_z-of_z w64 c.bounds_of-whole.result.left whole_left_fits ∙ c.bounds_of-whole.ensures.left in
    let whole_right = to_z-of_z w64 c.bounds_of-whole.result.right whole_right_fits ∙ c.bounds_of-whole.ensures.right in
    part-goes c.args.t.now c.args.from.now c.args.left c.args.right (int_le (to_z w64 (of_z w64 c.bounds_of-own.result.right)) (to_z w64 (of_z w64 c.bounds_of-own.result.left)))
    (int_le (to_z w64 (of_z w64 c.bounds_of-whole.result.right)) (to_z w64 (of_z w64 c.bounds_of-whole.result.left))) (λ i. int_le (own_right i) (own_left i)) (λ i. int_le (whole_right i) (whole_left i))
    c.if-falls-whole_falls.true (λ e. c.if-left-right.false (ap (of_z w64) e))

pub returns : goal.returns
returns c =
    let own_left_fits : SFits w64 c.bounds_of-own.result.left = search rules in
    let own_right_fits : SFits w64 c.bounds_of-own.result.right = search rules in
    let whole_left_fits : SFits w64 c.bounds_of-whole.result.left = search rules in
    let whole_right_fits : SFits w64 c.bounds_of-whole.result.right = search rules in
    let left_fits : SFits w64 c.args.left = search rules in
    let right_fits : SFits w64 c.args.right = search rules in
    let own_left = to_z-of_z w64 c.bounds_of-own.result.left own_left_fits ∙ c.bounds_of-own.ensures.left in
    let own_right = to_z-of_z w64 c.bounds_of-own.result.right own_right_fits ∙ c.bounds_of-own.ensures.right in
    let whole_left = to_z-of_z w64 c.bounds_of-whole.result.left whole_left_fits ∙ c.bounds_of-whole.ensures.left in
    let whole_right = to_z-of_z w64 c.bounds_of-whole.result.right whole_right_fits ∙ c.bounds_of-whole.ensures.right in
    part-is c.args.t.now c.args.from.now c.args.left c.args.right c.if-not-has_elements.ensures (sym c.bounds_of-own.ensures.left ∙ one-number c.bounds_of-own.result.left c.args.left own_left_fits left_fits c.if-own-left.false)
    (sym c.bounds_of-own.ensures.right ∙ one-number c.bounds_of-own.result.right c.args.right own_right_fits right_fits c.if-own-right.false)
    (sym c.bounds_of-own.ensures.element ∙ c.if-own-whole.false ∙ c.bounds_of-whole.ensures.element)
    (inl (sym (λ i. int_le (own_right i) (own_left i))
    ∙ one-test (int_le (to_z w64 (of_z w64 c.bounds_of-own.result.right)) (to_z w64 (of_z w64 c.bounds_of-own.result.left)))
    (int_le (to_z w64 (of_z w64 c.bounds_of-whole.result.right)) (to_z w64 (of_z w64 c.bounds_of-whole.result.left))) c.if-falls-whole_falls.false
    ∙ (λ i. int_le (whole_right i) (whole_left i))))
