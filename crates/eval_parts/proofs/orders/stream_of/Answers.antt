use Rattle.eval_parts.proofs.Given as G
use Rattle.eval_parts.proofs.orders.stream_of.Goals as goal

pub returns-in-Literal : goal.returns-in-Literal
returns-in-Literal c = G.cut-Literal c.args.e.now _ _ c.in-Literal.is

pub returns-in-Fill : goal.returns-in-Fill
returns-in-Fill c = G.cut-Fill c.args.e.now _ c.in-Fill.is

pub returns-in-Constant : goal.returns-in-Constant
returns-in-Constant c = G.cut-Constant c.args.e.now _ c.in-Constant.is

pub returns-in-Signal : goal.returns-in-Signal
returns-in-Signal c = G.cut-Signal c.args.e.now _ c.in-Signal.is

pub returns-in-Local : goal.returns-in-Local
returns-in-Local c = G.cut-Local c.args.e.now _ c.in-Local.is

pub returns-in-Member : goal.returns-in-Member
returns-in-Member c = G.cut-Member c.args.e.now _ _ c.in-Member.is

pub returns-in-Index : goal.returns-in-Index
returns-in-Index c = G.cut-Index c.args.e.now _ _ c.in-Index.is

pub returns-in-Part : goal.returns-in-Part
returns-in-Part c = G.cut-Part c.args.e.now _ _ _ c.in-Part.is

pub returns-in-Slide : goal.returns-in-Slide
returns-in-Slide c = G.cut-Slide c.args.e.now _ _ _ _ c.in-Slide.is

pub returns-in-Unary : goal.returns-in-Unary
returns-in-Unary c = G.cut-Unary c.args.e.now _ _ c.in-Unary.is

pub returns-in-Reduce : goal.returns-in-Reduce
returns-in-Reduce c = G.cut-Reduce c.args.e.now _ _ c.in-Reduce.is

pub returns-in-Negate : goal.returns-in-Negate
returns-in-Negate c = G.cut-Negate c.args.e.now _ c.in-Negate.is

pub returns-in-Binary : goal.returns-in-Binary
returns-in-Binary c = G.cut-Binary c.args.e.now _ _ _ c.in-Binary.is

pub returns-in-Shift : goal.returns-in-Shift
returns-in-Shift c = G.cut-Shift c.args.e.now _ _ _ c.in-Shift.is

pub returns-in-Power : goal.returns-in-Power
returns-in-Power c = G.cut-Power c.args.e.now _ _ c.in-Power.is

pub returns-in-Order : goal.returns-in-Order
returns-in-Order c = G.cut-Order c.args.e.now _ _ _ c.in-Order.is

pub returns-in-Equal : goal.returns-in-Equal
returns-in-Equal c = G.cut-Equal c.args.e.now _ _ _ _ c.in-Equal.is

pub returns-in-Both : goal.returns-in-Both
returns-in-Both c = G.cut-Both c.args.e.now _ _ c.in-Both.is

pub returns-in-Either : goal.returns-in-Either
returns-in-Either c = G.cut-Either c.args.e.now _ _ c.in-Either.is

pub returns-in-Choose : goal.returns-in-Choose
returns-in-Choose c = G.cut-Choose c.args.e.now _ _ _ c.in-Choose.is

pub returns-in-Concat : goal.returns-in-Concat
returns-in-Concat c = G.cut-Concat c.args.e.now _ c.in-Concat.is

pub returns-in-Repeat : goal.returns-in-Repeat
returns-in-Repeat c = G.cut-Repeat c.args.e.now _ _ c.in-Repeat.is

pub returns-in-Inside : goal.returns-in-Inside
returns-in-Inside c = G.cut-Inside c.args.e.now _ _ c.in-Inside.is

pub returns-in-Cast : goal.returns-in-Cast
returns-in-Cast c = G.cut-Cast c.args.e.now _ c.in-Cast.is

pub returns-in-Clog2 : goal.returns-in-Clog2
returns-in-Clog2 c = G.cut-Clog2 c.args.e.now _ c.in-Clog2.is

pub returns-in-Pattern : goal.returns-in-Pattern
returns-in-Pattern c = G.cut-Pattern c.args.e.now _ c.in-Pattern.is

pub returns-in-Call : goal.returns-in-Call
returns-in-Call c = G.cut-Call c.args.e.now _ _ c.in-Call.is
