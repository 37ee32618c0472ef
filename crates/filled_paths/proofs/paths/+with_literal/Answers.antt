use Rattle.std.proofs.Common.{◌≡◌, ◌-◌, IfOk, arith, rules, subst}
use Rattle.std.proofs.lemmas.Int.{to_z-of_z}
use mir.Val.{SFits, to_z, of_z}
use mir.Syntax.{w64}
use Rattle.filled_paths.specs.Numbers.{IsPartMade}
use Rattle.filled_paths.proofs.Steps.{fills-all, fills-plain, fills-signal, fills-local, fills-member, fills-part, fills-index, fills-slide, fills-here, fills-base}
use Rattle.filled_paths.proofs.paths.+with_literal.Goals as goal

pub returns-in-None : goal.returns-in-None
returns-in-None t c = fills-all c.args.e.now c.args.at c.args.bits.now c.copy_expr.result (λ f. fills-plain c.args.e.now c.args.at c.args.bits.now f c.in-None.ensures.plain)

pub returns-in-Some-Signal : goal.returns-in-Some-Signal
returns-in-Some-Signal t c =
    fills-all c.args.e.now c.args.at c.args.bits.now c.copy_expr-in-Some-Signal.result
    (λ f. fills-signal c.args.e.now _ c.args.at c.args.bits.now f (rw c.in-Some-Signal.field-0-is at c.in-Some-Signal.ensures.step))

pub returns-in-Some-Local : goal.returns-in-Some-Local
returns-in-Some-Local t c =
    fills-all c.args.e.now c.args.at c.args.bits.now c.copy_expr-in-Some-Local.result
    (λ f. fills-local c.args.e.now _ c.args.at c.args.bits.now f (rw c.in-Some-Local.field-0-is at c.in-Some-Local.ensures.step))

pub returns-in-Some-Member : goal.returns-in-Some-Member
returns-in-Some-Member t c =
    let h = rw c.in-Some-Member.field-0-is at c.in-Some-Member.ensures.step in
    fills-member c.args.bits.now c.args.e.now c.in-Some-Member.from.now _ c.args.at c.with_literal-from.result c.member.result h c.with_literal-from.ensures c.member.ensures

pub returns-in-Some-Part : goal.returns-in-Some-Part
returns-in-Some-Part t c =
    let h = rw c.in-Some-Part.field-0-is at c.in-Some-Part.ensures.step in
    let left_fits : SFits w64 c.in-Some-Part.left = search rules in
    let right_fits : SFits w64 c.in-Some-Part.right = search rules in
    let left_same : to_z w64 (of_z w64 c.in-Some-Part.left) ≡ c.in-Some-Part.left = to_z-of_z w64 c.in-Some-Part.left left_fits in
    let right_same : to_z w64 (of_z w64 c.in-Some-Part.right) ≡ c.in-Some-Part.right = to_z-of_z w64 c.in-Some-Part.right right_fits in
    fills-part c.args.bits.now c.args.e.now c.in-Some-Part.from.now c.in-Some-Part.left c.in-Some-Part.right c.args.at c.with_literal-from-in-Some-Part.result c.part.result h c.with_literal-from-in-Some-Part.ensures
    (subst (λ y. IfOk c.part.result (IsPartMade c.args.e.now c.with_literal-from-in-Some-Part.result c.in-Some-Part.left y)) right_same
    (subst (λ y. IfOk c.part.result (IsPartMade c.args.e.now c.with_literal-from-in-Some-Part.result y (to_z w64 (of_z w64 c.in-Some-Part.right)))) left_same c.part.ensures))

pub returns-then-at-eq0 : goal.returns-then-at-eq0
returns-then-at-eq0 t c =
    let h = rw c.in-Some-Index.field-0-is at c.in-Some-Index.ensures.step in
    fills-here c.args.bits.now c.args.e.now c.in-Some-Index.from.now c.in-Some-Index.i.now c.args.at c.copy_expr-from.result c.literal.result c.element.result h (omega arith) c.copy_expr-from.ensures c.literal.ensures
    c.element.ensures

pub returns-else-at-eq0 : goal.returns-else-at-eq0
returns-else-at-eq0 t c =
    let h = rw c.in-Some-Index.field-0-is at c.in-Some-Index.ensures.step in
    fills-index c.args.bits.now c.args.e.now c.in-Some-Index.from.now c.in-Some-Index.i.now c.args.at (c.args.at - 1) c.with_literal-from-else-at-eq0.result c.copy_expr-else-at-eq0.result c.element-else-at-eq0.result h (omega arith)
    c.with_literal-from-else-at-eq0.ensures c.copy_expr-else-at-eq0.ensures c.element-else-at-eq0.ensures

pub returns-then-at-eq0-2 : goal.returns-then-at-eq0-2
returns-then-at-eq0-2 t c =
    let h = rw c.in-Some-Slide.field-0-is at c.in-Some-Slide.ensures.step in
    fills-base c.args.bits.now c.args.e.now c.in-Some-Slide.from.now c.in-Some-Slide.base.now c.in-Some-Slide.width c.in-Some-Slide.up c.args.at c.copy_expr-from-then-at-eq0-2.result c.literal-then-at-eq0-2.result c.slide.result h
    (omega arith) c.copy_expr-from-then-at-eq0-2.ensures c.literal-then-at-eq0-2.ensures c.slide.ensures

pub returns-else-at-eq0-2 : goal.returns-else-at-eq0-2
returns-else-at-eq0-2 t c =
    let h = rw c.in-Some-Slide.field-0-is at c.in-Some-Slide.ensures.step in
    fills-slide c.args.bits.now c.args.e.now c.in-Some-Slide.from.now c.in-Some-Slide.base.now c.in-Some-Slide.width c.in-Some-Slide.up c.args.at (c.args.at - 1) c.with_literal-from-else-at-eq0-2.result
    c.copy_expr-else-at-eq0-2.result c.slide-else-at-eq0-2.result h (omega arith) c.with_literal-from-else-at-eq0-2.ensures c.copy_expr-else-at-eq0-2.ensures c.slide-else-at-eq0-2.ensures
