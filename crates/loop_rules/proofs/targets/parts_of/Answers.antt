use Rattle.loop_rules.proofs.Roots as W
use Rattle.loop_rules.proofs.targets.parts_of.Goals as goal

pub returns-in-Literal : goal.returns-in-Literal
returns-in-Literal c = W.alone-Literal c.args.e.now c.in-Literal.bits c.in-Literal.goes_on c.in-Literal.is

pub returns-in-Fill : goal.returns-in-Fill
returns-in-Fill c = W.alone-Fill c.args.e.now c.in-Fill.field-0 c.in-Fill.is

pub returns-in-Constant : goal.returns-in-Constant
returns-in-Constant c = W.alone-Constant c.args.e.now c.in-Constant.field-0 c.in-Constant.is

pub returns-in-Unary : goal.returns-in-Unary
returns-in-Unary c = W.alone-Unary c.args.e.now c.in-Unary.field-0 c.in-Unary.field-1 c.in-Unary.is

pub returns-in-Reduce : goal.returns-in-Reduce
returns-in-Reduce c = W.alone-Reduce c.args.e.now c.in-Reduce.field-0 c.in-Reduce.field-1 c.in-Reduce.is

pub returns-in-Binary : goal.returns-in-Binary
returns-in-Binary c = W.alone-Binary c.args.e.now c.in-Binary.field-0 c.in-Binary.field-1 c.in-Binary.field-2 c.in-Binary.is

pub returns-in-Shift : goal.returns-in-Shift
returns-in-Shift c = W.alone-Shift c.args.e.now c.in-Shift.field-0 c.in-Shift.field-1 c.in-Shift.field-2 c.in-Shift.is

pub returns-in-Order : goal.returns-in-Order
returns-in-Order c = W.alone-Order c.args.e.now c.in-Order.field-0 c.in-Order.field-1 c.in-Order.field-2 c.in-Order.is

pub returns-in-Equal : goal.returns-in-Equal
returns-in-Equal c = W.alone-Equal c.args.e.now c.in-Equal.op c.in-Equal.negated c.in-Equal.left c.in-Equal.right c.in-Equal.is

pub returns-in-Repeat : goal.returns-in-Repeat
returns-in-Repeat c = W.alone-Repeat c.args.e.now c.in-Repeat.field-0 c.in-Repeat.field-1 c.in-Repeat.is

pub returns-in-Call : goal.returns-in-Call
returns-in-Call c = W.alone-Call c.args.e.now c.in-Call.field-0 c.in-Call.field-1 c.in-Call.is
