use Rattle.std.proofs.Common.{◌≡◌, rules}
use Rattle.sv_types.specs.declared.expression.Form.TheVariants as V
use Rattle.constant_exprs.proofs.ByForm as M
use Rattle.constant_exprs.proofs.parts.parts_of.Goals as goal

pub returns-in-Member : goal.returns-in-Member
returns-in-Member c = let is : c.args.e.now.form ≡ V.Member c.get.result.now c.in-Member.field-1 = first_of (search rules, cc) in M.parts-Member c.args.e.now c.get.result.now c.in-Member.field-1 is

pub returns-in-Index : goal.returns-in-Index
returns-in-Index c = let is : c.args.e.now.form ≡ V.Index c.get-in-Index.result.now c.get-in-Index-2.result.now = first_of (search rules, cc) in M.parts-Index c.args.e.now c.get-in-Index.result.now c.get-in-Index-2.result.now is

pub returns-in-Part : goal.returns-in-Part
returns-in-Part c = let is : c.args.e.now.form ≡ V.Part c.get-in-Part.result.now c.in-Part.left c.in-Part.right = first_of (search rules, cc) in M.parts-Part c.args.e.now c.get-in-Part.result.now c.in-Part.left c.in-Part.right is

pub returns-in-Slide : goal.returns-in-Slide
returns-in-Slide c = let is : c.args.e.now.form ≡ V.Slide c.get-in-Slide.result.now c.get-in-Slide-2.result.now c.in-Slide.width c.in-Slide.up = first_of (search rules, cc) in M.parts-Slide c.args.e.now c.get-in-Slide.result.now c.get-in-Slide-2.result.now c.in-Slide.width c.in-Slide.up is

pub returns-in-Binary : goal.returns-in-Binary
returns-in-Binary c = let is : c.args.e.now.form ≡ V.Binary c.in-Binary.field-0 c.get-in-Binary.result.now c.get-in-Binary-2.result.now = first_of (search rules, cc) in M.parts-Binary c.args.e.now c.in-Binary.field-0 c.get-in-Binary.result.now c.get-in-Binary-2.result.now is

pub returns-in-Shift : goal.returns-in-Shift
returns-in-Shift c = let is : c.args.e.now.form ≡ V.Shift c.in-Shift.field-0 c.get-in-Shift.result.now c.get-in-Shift-2.result.now = first_of (search rules, cc) in M.parts-Shift c.args.e.now c.in-Shift.field-0 c.get-in-Shift.result.now c.get-in-Shift-2.result.now is

pub returns-in-Order : goal.returns-in-Order
returns-in-Order c = let is : c.args.e.now.form ≡ V.Order c.in-Order.field-0 c.get-in-Order.result.now c.get-in-Order-2.result.now = first_of (search rules, cc) in M.parts-Order c.args.e.now c.in-Order.field-0 c.get-in-Order.result.now c.get-in-Order-2.result.now is

pub returns-in-Power : goal.returns-in-Power
returns-in-Power c = let is : c.args.e.now.form ≡ V.Power c.get-in-Power.result.now c.get-in-Power-2.result.now = first_of (search rules, cc) in M.parts-Power c.args.e.now c.get-in-Power.result.now c.get-in-Power-2.result.now is

pub returns-in-Both : goal.returns-in-Both
returns-in-Both c = let is : c.args.e.now.form ≡ V.Both c.get-in-Both.result.now c.get-in-Both-2.result.now = first_of (search rules, cc) in M.parts-Both c.args.e.now c.get-in-Both.result.now c.get-in-Both-2.result.now is

pub returns-in-Either : goal.returns-in-Either
returns-in-Either c = let is : c.args.e.now.form ≡ V.Either c.get-in-Either.result.now c.get-in-Either-2.result.now = first_of (search rules, cc) in M.parts-Either c.args.e.now c.get-in-Either.result.now c.get-in-Either-2.result.now is

pub returns-in-Equal : goal.returns-in-Equal
returns-in-Equal c = let is : c.args.e.now.form ≡ V.Equal c.in-Equal.op c.in-Equal.negated c.get-in-Equal.result.now c.get-in-Equal-2.result.now = first_of (search rules, cc) in M.parts-Equal c.args.e.now c.in-Equal.op c.in-Equal.negated c.get-in-Equal.result.now c.get-in-Equal-2.result.now is

pub returns-in-Choose : goal.returns-in-Choose
returns-in-Choose c = let is : c.args.e.now.form ≡ V.Choose c.get-in-Choose.result.now c.get-in-Choose-2.result.now c.get-in-Choose-3.result.now = first_of (search rules, cc) in M.parts-Choose c.args.e.now c.get-in-Choose.result.now c.get-in-Choose-2.result.now c.get-in-Choose-3.result.now is

pub returns-in-Concat : goal.returns-in-Concat
returns-in-Concat c = let is : c.args.e.now.form ≡ V.Concat c.as_slice.result.now = first_of (search rules, cc) in M.parts-Concat c.args.e.now c.as_slice.result.now is

pub returns-in-Repeat : goal.returns-in-Repeat
returns-in-Repeat c = let is : c.args.e.now.form ≡ V.Repeat c.in-Repeat.field-0 c.as_slice-in-Repeat.result.now = first_of (search rules, cc) in M.parts-Repeat c.args.e.now c.in-Repeat.field-0 c.as_slice-in-Repeat.result.now is

pub returns-in-Inside : goal.returns-in-Inside
returns-in-Inside c = let is : c.args.e.now.form ≡ V.Inside c.get-in-Inside.result.now c.as_slice-in-Inside.result.now = first_of (search rules, cc) in M.parts-Inside c.args.e.now c.get-in-Inside.result.now c.as_slice-in-Inside.result.now is

pub returns-in-Pattern : goal.returns-in-Pattern
returns-in-Pattern c = let is : c.args.e.now.form ≡ V.Pattern c.as_slice-in-Pattern.result.now = first_of (search rules, cc) in M.parts-Pattern c.args.e.now c.as_slice-in-Pattern.result.now c.placed.result.now is c.placed.ensures

pub returns-in-Literal : goal.returns-in-Literal
returns-in-Literal c = let is : c.args.e.now.form ≡ V.Literal c.in-Literal.bits c.in-Literal.goes_on = first_of (search rules, cc) in M.parts-Literal c.args.e.now c.in-Literal.bits c.in-Literal.goes_on is

pub returns-in-Fill : goal.returns-in-Fill
returns-in-Fill c = let is : c.args.e.now.form ≡ V.Fill c.in-Fill.field-0 = first_of (search rules, cc) in M.parts-Fill c.args.e.now c.in-Fill.field-0 is

pub returns-in-Constant : goal.returns-in-Constant
returns-in-Constant c = let is : c.args.e.now.form ≡ V.Constant c.in-Constant.field-0 = first_of (search rules, cc) in M.parts-Constant c.args.e.now c.in-Constant.field-0 is

pub returns-in-Unary : goal.returns-in-Unary
returns-in-Unary c = let is : c.args.e.now.form ≡ V.Unary c.in-Unary.field-0 c.get-in-Unary.result.now = first_of (search rules, cc) in M.parts-Unary c.args.e.now c.in-Unary.field-0 c.get-in-Unary.result.now is

pub returns-in-Reduce : goal.returns-in-Reduce
returns-in-Reduce c = let is : c.args.e.now.form ≡ V.Reduce c.in-Reduce.field-0 c.get-in-Reduce.result.now = first_of (search rules, cc) in M.parts-Reduce c.args.e.now c.in-Reduce.field-0 c.get-in-Reduce.result.now is

pub returns-in-Negate : goal.returns-in-Negate
returns-in-Negate c = let is : c.args.e.now.form ≡ V.Negate c.get-in-Negate.result.now = first_of (search rules, cc) in M.parts-Negate c.args.e.now c.get-in-Negate.result.now is

pub returns-in-Cast : goal.returns-in-Cast
returns-in-Cast c = let is : c.args.e.now.form ≡ V.Cast c.get-in-Cast.result.now = first_of (search rules, cc) in M.parts-Cast c.args.e.now c.get-in-Cast.result.now is

pub returns-in-Clog2 : goal.returns-in-Clog2
returns-in-Clog2 c = let is : c.args.e.now.form ≡ V.Clog2 c.get-in-Clog2.result.now = first_of (search rules, cc) in M.parts-Clog2 c.args.e.now c.get-in-Clog2.result.now is

pub returns-in-Signal : goal.returns-in-Signal
returns-in-Signal c = let is : c.args.e.now.form ≡ V.Signal c.in-Signal.field-0 = first_of (search rules, cc) in M.parts-Signal c.args.e.now c.in-Signal.field-0 is

pub returns-in-Local : goal.returns-in-Local
returns-in-Local c = let is : c.args.e.now.form ≡ V.Local c.in-Local.field-0 = first_of (search rules, cc) in M.parts-Local c.args.e.now c.in-Local.field-0 is

pub returns-in-Call : goal.returns-in-Call
returns-in-Call c = let is : c.args.e.now.form ≡ V.Call c.in-Call.field-0 c.as_slice-in-Call.result.now = first_of (search rules, cc) in M.parts-Call c.args.e.now c.in-Call.field-0 c.as_slice-in-Call.result.now is

pub returns-in-Stream : goal.returns-in-Stream
returns-in-Stream c = let is : c.args.e.now.form ≡ V.Stream c.in-Stream.reversed c.in-Stream.slice c.as_slice-in-Stream.result.now = first_of (search rules, cc) in M.parts-Stream c.args.e.now c.in-Stream.reversed c.in-Stream.slice c.as_slice-in-Stream.result.now is
