use Rattle.std.proofs.Common.{ap, ◌∙◌}
use Rattle.b4_core.specs.declared.operators.OrdOp.TheVariants.{LessEqual, GreaterEqual}
use Rattle.b4_core.specs.Bits.{and4}
use Rattle.b4_core.specs.Compare.{order_value}
use Rattle.sv_types.specs.Operators.{both_signed}
use Rattle.sv_types.specs.Expressions.{meaning}
use Rattle.eval_forms.proofs.Alternatives.{test-range}
use Rattle.eval_forms.proofs.choices.test.Goals as goal

pub returns-in-Range : goal.returns-in-Range
returns-in-Range c =
    let p = c.index-values-0-in-Range.result in
    let q = c.index-values-1-in-Range.result in
    let r = c.index-values-2.result in
    let u = c.index-values-3.result in
    let l = c.are_signed.result in
    let h = c.are_signed-in-Range.result in
    test-range c.args.x.now c.in-Range.low c.in-Range.high c.args.choice.now c.args.values.now p q r u c.both.result c.in-Range.is c.requires c.index-values-0-in-Range.is c.index-values-1-in-Range.is c.index-values-2.is c.index-values-3.is
    (
    c.both.ensures ∙ ap (λ b. and4 b c.order-below.result) (c.order-above.ensures ∙ ap (λ s. order_value GreaterEqual s p q) c.are_signed.ensures)
    ∙ ap (λ b. and4 (order_value GreaterEqual (both_signed (meaning c.args.x.now) (meaning c.in-Range.low)) p q) b) (c.order-below.ensures ∙ ap (λ s. order_value LessEqual s r u) c.are_signed-in-Range.ensures)
    )
