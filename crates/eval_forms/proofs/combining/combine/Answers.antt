use Rattle.std.proofs.Common.{◌∷◌, [], length, ap, sym, ◌∙◌, subst}
use Rattle.b4_core.specs.Bits.{and4, or4, not4}
use Rattle.b4_core.specs.Bitwise.{truth_of}
use Rattle.b4_core.specs.Vectors.{ext}
use Rattle.b4_core.specs.Power.{power_value}
use Rattle.b4_core.specs.Compare.{order_value}
use Rattle.sv_types.specs.Layouts.{layout, width_of, stored, stacked}
use Rattle.sv_types.specs.Meanings.{signed}
use Rattle.sv_types.specs.Operators.{both_signed, chosen, parts_of}
use Rattle.sv_types.specs.Expressions.{meaning}
use Rattle.eval_parts.specs.Targets.{marks_of_parts}
use Rattle.eval_forms.specs.Assigned.{PlacesFit, AssignedBy}
use Rattle.eval_forms.proofs.Alternatives.{inside-ready, tested-by, combines-Inside}
use Rattle.eval_forms.proofs.Placing.{pattern-narrow, pattern-ready, combines-Pattern}
use Rattle.eval_forms.proofs.Combined as C
use Rattle.eval_forms.proofs.combining.combine.Goals as goal

pub unary-requires-clause-narrow : goal.unary-requires-clause-narrow
unary-requires-clause-narrow c = C.ready-Unary c.args.e.now _ _ c.args.width c.args.signed c.args.values.now c.index-values-0.result c.in-Unary.is c.requires.operands c.index-values-0.is

pub reduce-requires : goal.reduce-requires
reduce-requires c = C.ready-Reduce c.args.e.now _ _ c.args.width c.args.signed c.args.values.now c.index-values-0-in-Reduce.result c.in-Reduce.is c.requires.operands c.index-values-0-in-Reduce.is

pub binary-requires-clause-same : goal.binary-requires-clause-same
binary-requires-clause-same c = C.same-Binary c.args.e.now _ _ _ c.args.width c.args.signed c.args.values.now c.index-values-0-in-Binary.result c.index-values-1.result c.in-Binary.is c.requires.operands c.index-values-0-in-Binary.is c.index-values-1.is

pub binary-requires-clause-narrow : goal.binary-requires-clause-narrow
binary-requires-clause-narrow c = C.word-Binary c.args.e.now _ _ _ c.args.width c.args.signed c.args.values.now c.index-values-0-in-Binary.result c.in-Binary.is c.requires.operands c.index-values-0-in-Binary.is

pub shift-requires-clause-amount : goal.shift-requires-clause-amount
shift-requires-clause-amount c = C.ready-Shift c.args.e.now _ _ _ c.args.width c.args.signed c.args.values.now c.index-values-1-in-Shift.result c.in-Shift.is c.requires.operands c.index-values-1-in-Shift.is

pub power-requires-clause-base_narrow : goal.power-requires-clause-base_narrow
power-requires-clause-base_narrow c = C.base-Power c.args.e.now _ _ c.args.width c.args.signed c.args.values.now c.index-values-0-in-Power.result c.in-Power.is c.requires.operands c.index-values-0-in-Power.is

pub power-requires-clause-exponent : goal.power-requires-clause-exponent
power-requires-clause-exponent c = (C.exponent-Power c.args.e.now _ _ c.args.width c.args.signed c.args.values.now c.index-values-1-in-Power.result c.in-Power.is c.requires.operands c.index-values-1-in-Power.is).0

pub power-requires-clause-exponent_narrow : goal.power-requires-clause-exponent_narrow
power-requires-clause-exponent_narrow c = (C.exponent-Power c.args.e.now _ _ c.args.width c.args.signed c.args.values.now c.index-values-1-in-Power.result c.in-Power.is c.requires.operands c.index-values-1-in-Power.is).1

pub order-bit-requires-clause-some : goal.order-bit-requires-clause-some
order-bit-requires-clause-some c = (C.ready-Order c.args.e.now _ _ _ c.args.width c.args.signed c.args.values.now c.index-values-0-in-Order.result c.index-values-1-in-Order.result c.in-Order.is c.requires.operands c.index-values-0-in-Order.is c.index-values-1-in-Order.is).0

pub order-bit-requires-clause-same : goal.order-bit-requires-clause-same
order-bit-requires-clause-same c = (C.ready-Order c.args.e.now _ _ _ c.args.width c.args.signed c.args.values.now c.index-values-0-in-Order.result c.index-values-1-in-Order.result c.in-Order.is c.requires.operands c.index-values-0-in-Order.is c.index-values-1-in-Order.is).1

pub order-bit-requires-clause-narrow : goal.order-bit-requires-clause-narrow
order-bit-requires-clause-narrow c = (C.ready-Order c.args.e.now _ _ _ c.args.width c.args.signed c.args.values.now c.index-values-0-in-Order.result c.index-values-1-in-Order.result c.in-Order.is c.requires.operands c.index-values-0-in-Order.is c.index-values-1-in-Order.is).2

pub equality_bit-bit-requires : goal.equality_bit-bit-requires
equality_bit-bit-requires c = C.ready-Equal c.args.e.now _ _ _ _ c.args.width c.args.signed c.args.values.now c.index-values-0-in-Equal.result c.index-values-1-in-Equal.result c.in-Equal.is c.requires.operands c.index-values-0-in-Equal.is c.index-values-1-in-Equal.is

pub chosen-requires : goal.chosen-requires
chosen-requires c = ap length (c.in_ok-left-in-Choose.ensures ∙ c.as_slice.ensures) ∙ C.ready-Choose c.args.e.now _ _ _ c.args.width c.args.signed c.args.values.now c.index-values-1-in-Choose.result c.index-values-2.result c.in-Choose.is c.requires.operands c.index-values-1-in-Choose.is c.index-values-2.is ∙ sym (ap length (c.in_ok-right-in-Choose.ensures ∙ c.as_slice-in-Choose.ensures))

pub converted-requires : goal.converted-requires
converted-requires c = C.ready-Cast c.args.e.now c.args.width c.args.signed c.args.values.now c.requires.operands

pub clog2-requires : goal.clog2-requires
clog2-requires c = C.ready-Clog2 c.args.e.now _ c.args.width c.args.signed c.args.values.now c.index-values-0-in-Clog2.result c.in-Clog2.is c.requires.operands c.index-values-0-in-Clog2.is

pub returns-in_ok-unary-in-Unary : goal.returns-in_ok-unary-in-Unary
returns-in_ok-unary-in-Unary c = C.combines-Unary c.args.e.now _ _ c.args.width c.args.signed c.args.values.now c.index-values-0.result c.in_ok-unary-in-Unary.field-0 c.in-Unary.is c.index-values-0.is (c.in_ok-unary-in-Unary.ensures)

pub returns-in_ok-one_bit-in-Reduce : goal.returns-in_ok-one_bit-in-Reduce
returns-in_ok-one_bit-in-Reduce c = C.combines-Reduce c.args.e.now _ _ c.args.width c.args.signed c.args.values.now c.index-values-0-in-Reduce.result c.in_ok-one_bit-in-Reduce.field-0 c.in-Reduce.is c.index-values-0-in-Reduce.is (c.in_ok-one_bit-in-Reduce.ensures ∙ ap (λ b. ext c.args.width c.args.signed (b ∷ [])) (c.reduce.ensures))

pub returns-in_ok-one_bit-in-Negate : goal.returns-in_ok-one_bit-in-Negate
returns-in_ok-one_bit-in-Negate c = C.combines-Negate c.args.e.now _ c.args.width c.args.signed c.args.values.now c.index-values-0-in-Negate.result c.in_ok-one_bit-in-Negate.field-0 c.in-Negate.is c.index-values-0-in-Negate.is (c.in_ok-one_bit-in-Negate.ensures ∙ ap (λ b. ext c.args.width c.args.signed (b ∷ [])) (c.negate.ensures ∙ ap not4 c.truth.ensures))

pub returns-in_ok-binary-in-Binary : goal.returns-in_ok-binary-in-Binary
returns-in_ok-binary-in-Binary c = C.combines-Binary c.args.e.now _ _ _ c.args.width c.args.signed c.args.values.now c.index-values-0-in-Binary.result c.index-values-1.result c.in_ok-binary-in-Binary.field-0 c.in-Binary.is c.index-values-0-in-Binary.is c.index-values-1.is (c.in_ok-binary-in-Binary.ensures)

pub returns-in_ok-shift-in-Shift : goal.returns-in_ok-shift-in-Shift
returns-in_ok-shift-in-Shift c = C.combines-Shift c.args.e.now _ _ _ c.args.width c.args.signed c.args.values.now c.index-values-0-in-Shift.result c.index-values-1-in-Shift.result c.in_ok-shift-in-Shift.field-0 c.in-Shift.is c.index-values-0-in-Shift.is c.index-values-1-in-Shift.is (c.in_ok-shift-in-Shift.ensures)

pub returns-in_ok-power-in-Power : goal.returns-in_ok-power-in-Power
returns-in_ok-power-in-Power c = C.combines-Power c.args.e.now _ _ c.args.width c.args.signed c.args.values.now c.index-values-0-in-Power.result c.index-values-1-in-Power.result c.in_ok-power-in-Power.field-0 c.in-Power.is c.index-values-0-in-Power.is c.index-values-1-in-Power.is (c.in_ok-power-in-Power.ensures ∙ ap (λ b. power_value c.args.signed b c.index-values-0-in-Power.result c.index-values-1-in-Power.result) (c.own_sign-y_signed.ensures ∙ ap (λ q. signed (meaning q)) c.get.ensures))

pub returns-in_ok-one_bit-in-Order : goal.returns-in_ok-one_bit-in-Order
returns-in_ok-one_bit-in-Order c = C.combines-Order c.args.e.now _ _ _ c.args.width c.args.signed c.args.values.now c.index-values-0-in-Order.result c.index-values-1-in-Order.result c.in_ok-one_bit-in-Order.field-0 c.in-Order.is c.index-values-0-in-Order.is c.index-values-1-in-Order.is (c.in_ok-one_bit-in-Order.ensures ∙ ap (λ b. ext c.args.width c.args.signed (b ∷ [])) (c.order-bit.ensures ∙ ap (λ b. order_value c.in-Order.op b c.index-values-0-in-Order.result c.index-values-1-in-Order.result) (c.are_signed-both_signed.ensures ∙ ap (λ q. both_signed (meaning q) (meaning c.get-in-Order-2.result.now)) c.get-in-Order.ensures ∙ ap (λ q. both_signed (meaning c.in-Order.x) (meaning q)) c.get-in-Order-2.ensures)))

pub returns-in_ok-one_bit-in-Equal : goal.returns-in_ok-one_bit-in-Equal
returns-in_ok-one_bit-in-Equal c = C.combines-Equal c.args.e.now _ _ _ _ c.args.width c.args.signed c.args.values.now c.index-values-0-in-Equal.result c.index-values-1-in-Equal.result c.in_ok-one_bit-in-Equal.field-0 c.in-Equal.is c.index-values-0-in-Equal.is c.index-values-1-in-Equal.is (c.in_ok-one_bit-in-Equal.ensures ∙ ap (λ b. ext c.args.width c.args.signed (b ∷ [])) (c.equality_bit-bit.ensures))

pub returns-in_ok-one_bit-in-Both : goal.returns-in_ok-one_bit-in-Both
returns-in_ok-one_bit-in-Both c = C.combines-Both c.args.e.now _ _ c.args.width c.args.signed c.args.values.now c.index-values-0-in-Both.result c.index-values-1-in-Both.result c.in_ok-one_bit-in-Both.field-0 c.in-Both.is c.index-values-0-in-Both.is c.index-values-1-in-Both.is (c.in_ok-one_bit-in-Both.ensures ∙ ap (λ b. ext c.args.width c.args.signed (b ∷ [])) (c.both-bit.ensures ∙ ap (λ b. and4 b c.truth-in-Both-2.result) c.truth-in-Both.ensures ∙ ap (λ b. and4 (truth_of c.index-values-0-in-Both.result) b) c.truth-in-Both-2.ensures))

pub returns-in_ok-one_bit-in-Either : goal.returns-in_ok-one_bit-in-Either
returns-in_ok-one_bit-in-Either c = C.combines-Either c.args.e.now _ _ c.args.width c.args.signed c.args.values.now c.index-values-0-in-Either.result c.index-values-1-in-Either.result c.in_ok-one_bit-in-Either.field-0 c.in-Either.is c.index-values-0-in-Either.is c.index-values-1-in-Either.is (c.in_ok-one_bit-in-Either.ensures ∙ ap (λ b. ext c.args.width c.args.signed (b ∷ [])) (c.either-bit.ensures ∙ ap (λ b. or4 b c.truth-in-Either-2.result) c.truth-in-Either.ensures ∙ ap (λ b. or4 (truth_of c.index-values-0-in-Either.result) b) c.truth-in-Either-2.ensures))

pub returns-in_ok-chosen-in-Choose : goal.returns-in_ok-chosen-in-Choose
returns-in_ok-chosen-in-Choose c = C.combines-Choose c.args.e.now _ _ _ c.args.width c.args.signed c.args.values.now c.index-values-0-in-Choose.result c.index-values-1-in-Choose.result c.index-values-2.result c.in_ok-chosen-in-Choose.field-0 c.in-Choose.is c.index-values-0-in-Choose.is c.index-values-1-in-Choose.is c.index-values-2.is (c.in_ok-chosen-in-Choose.ensures ∙ ap (λ b. chosen b c.in_ok-left-in-Choose.left c.in_ok-right-in-Choose.right) c.truth-in-Choose.ensures ∙ ap (λ u. chosen (truth_of c.index-values-0-in-Choose.result) u c.in_ok-right-in-Choose.right) (c.in_ok-left-in-Choose.ensures ∙ c.as_slice.ensures) ∙ ap (λ u. chosen (truth_of c.index-values-0-in-Choose.result) c.index-values-1-in-Choose.result u) (c.in_ok-right-in-Choose.ensures ∙ c.as_slice-in-Choose.ensures))

pub returns-in_ok-in_context-in-Concat : goal.returns-in_ok-in_context-in-Concat
returns-in_ok-in_context-in-Concat c = C.combines-Concat c.args.e.now _ c.args.width c.args.signed c.args.values.now c.in_ok-in_context-in-Concat.field-0 c.in-Concat.is (c.in_ok-in_context-in-Concat.ensures)

pub returns-in_ok-repeated_in_context-in-Repeat : goal.returns-in_ok-repeated_in_context-in-Repeat
returns-in_ok-repeated_in_context-in-Repeat c = C.combines-Repeat c.args.e.now _ _ c.args.width c.args.signed c.args.values.now c.in_ok-repeated_in_context-in-Repeat.field-0 c.in-Repeat.is (c.in_ok-repeated_in_context-in-Repeat.ensures)

pub returns-in_ok-converted-in-Cast : goal.returns-in_ok-converted-in-Cast
returns-in_ok-converted-in-Cast c = C.combines-Cast c.args.e.now _ c.args.width c.args.signed c.args.values.now c.index-values-0-in-Cast.result c.in_ok-converted-in-Cast.field-0 c.in-Cast.is c.index-values-0-in-Cast.is (c.in_ok-converted-in-Cast.ensures ∙ ap (λ b. ext c.args.width c.args.signed (stored (layout c.args.e.now.of).two_state (ext (width_of c.args.e.now.of) b c.index-values-0-in-Cast.result))) (c.own_sign-from_signed.ensures ∙ ap (λ q. signed (meaning q)) c.get-in-Cast.ensures))

pub returns-in_ok-clog2-in-Clog2 : goal.returns-in_ok-clog2-in-Clog2
returns-in_ok-clog2-in-Clog2 c = C.combines-Clog2 c.args.e.now _ c.args.width c.args.signed c.args.values.now c.index-values-0-in-Clog2.result c.in_ok-clog2-in-Clog2.field-0 c.in-Clog2.is c.index-values-0-in-Clog2.is (c.in_ok-clog2-in-Clog2.ensures)

pub returns-in_ok-stream_in_context-in-Stream : goal.returns-in_ok-stream_in_context-in-Stream
returns-in_ok-stream_in_context-in-Stream c = C.combines-Stream c.args.e.now _ _ _ c.args.width c.args.signed c.args.values.now c.in_ok-stream_in_context-in-Stream.field-0 c.in-Stream.is (c.in_ok-stream_in_context-in-Stream.ensures)

pub returns-in_ok-literal-in-Literal : goal.returns-in_ok-literal-in-Literal
returns-in_ok-literal-in-Literal c = C.combines-Literal c.args.e.now _ _ c.args.width c.args.signed c.args.values.now c.in_ok-literal-in-Literal.field-0 c.in-Literal.is c.in_ok-literal-in-Literal.ensures

pub returns-in_ok-filled-in-Fill : goal.returns-in_ok-filled-in-Fill
returns-in_ok-filled-in-Fill c = C.combines-Fill c.args.e.now _ c.args.width c.args.signed c.args.values.now c.in_ok-filled-in-Fill.field-0 c.in-Fill.is c.in_ok-filled-in-Fill.ensures

pub returns-in_ok-extended-in-Constant : goal.returns-in_ok-extended-in-Constant
returns-in_ok-extended-in-Constant c =
    C.combines-Constant c.args.e.now _ c.args.width c.args.signed c.args.values.now c.in_ok-extended-in-Constant.field-0 c.in-Constant.is
    (c.in_ok-extended-in-Constant.ensures ∙ ap (ext c.args.width c.args.signed) c.in_ok-held-in-Constant.ensures)

pub tests-requires : goal.tests-requires
tests-requires c =
    inside-ready c.args.e.now _ _ c.args.width c.args.signed c.args.values.now c.get-in-Inside.result.now c.as_slice-in-Inside.result.now c.in-Inside.is c.get-in-Inside.ensures c.as_slice-in-Inside.ensures c.requires.operands

pub returns-in_ok-one_bit-in-Inside : goal.returns-in_ok-one_bit-in-Inside
returns-in_ok-one_bit-in-Inside c =
    combines-Inside c.args.e.now c.in-Inside.x c.in-Inside.choices c.args.width c.args.signed c.args.values.now c.in_ok-tested-in-Inside.tested c.in_ok-one_bit-in-Inside.field-0 c.in-Inside.is
    (tested-by c.in-Inside.x c.get-in-Inside.result.now c.in-Inside.choices c.as_slice-in-Inside.result.now c.args.values.now c.in_ok-tested-in-Inside.tested c.get-in-Inside.ensures c.as_slice-in-Inside.ensures c.in_ok-tested-in-Inside.ensures)
    (c.in_ok-one_bit-in-Inside.ensures ∙ ap (λ b. ext c.args.width c.args.signed (b ∷ [])) c.truth-in-Inside.ensures)

pub assigned_bits-requires-clause-places : goal.assigned_bits-requires-clause-places
assigned_bits-requires-clause-places c = pattern-narrow c.args.e.now c.args.width c.args.signed c.args.values.now c.requires.operands

pub assigned_bits-requires-clause-fit : goal.assigned_bits-requires-clause-fit
assigned_bits-requires-clause-fit c =
    subst (λ es. PlacesFit (marks_of_parts (parts_of (layout c.args.e.now.of))) es c.args.values.now) (sym c.as_slice-in-Pattern.ensures)
    (pattern-ready c.args.e.now _ c.args.width c.args.signed c.args.values.now c.in-Pattern.is c.requires.operands)

pub returns-in_ok-in_context-in-Pattern : goal.returns-in_ok-in_context-in-Pattern
returns-in_ok-in_context-in-Pattern c =
    combines-Pattern c.args.e.now c.in-Pattern.es c.args.width c.args.signed c.args.values.now c.in_ok-parts-in-Pattern.parts.items c.in_ok-in_context-in-Pattern.field-0 c.in-Pattern.is
    (subst (λ es. AssignedBy (marks_of_parts (parts_of (layout c.args.e.now.of))) es c.args.values.now c.in_ok-parts-in-Pattern.parts.items) c.as_slice-in-Pattern.ensures c.in_ok-parts-in-Pattern.ensures)
    (c.in_ok-in_context-in-Pattern.ensures ∙ ap (λ vs. ext c.args.width c.args.signed (stacked vs)) c.deref.ensures.value)
