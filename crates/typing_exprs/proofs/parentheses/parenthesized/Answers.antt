use Rattle.std.proofs.Common.{◌≡◌, Some}
use Rattle.expr_type.specs.Expressions.{meaning}
use Rattle.typing_parts.specs.Operands.{as_operand}
use Rattle.typing_patterns.specs.TypingValues.{by_size}
use Rattle.typing_exprs.proofs.CastFormsCasting.{cast-can, parenthesized-alone, parenthesized-sized}
use Rattle.typing_exprs.proofs.parentheses.parenthesized.Goals as goal

pub by_size-requires-clause-can : goal.by_size-requires-clause-can
by_size-requires-clause-can g c =
    let is : c.args.cast.now ≡ Some c.get.result.now = cc (c.in-Some.is, c.get.ensures) in
    cast-can _ _ _ _ _ _ _ c.args.cast.now c.get.result.now is c.requires.can

pub returns-in-None-clause-value : goal.returns-in-None-clause-value
returns-in-None-clause-value g c =
    let k = g.S.Names.context c.args.names.now in
    let fs = c.args.known.now.functions in
    let gs = c.operand-inner.new.known.functions in
    parenthesized-alone k c.args.opening c.args.value.now c.args.cast.now (as_operand k.source c.as_parenthesized.result) fs gs c.in-None.is
    (c.as_parenthesized.ensures k.source ((meaning c.args.value.now).typed k) fs gs c.operand-inner.ensures.value)

pub returns-in-Some-clause-value : goal.returns-in-Some-clause-value
returns-in-Some-clause-value g c =
    let k = g.S.Names.context c.args.names.now in
    let fs = c.args.known.now.functions in
    let gs = c.by_size.new.known.functions in
    let x = (meaning c.args.value.now).typed k in
    let is : c.args.cast.now ≡ Some c.get.result.now = cc (c.in-Some.is, c.get.ensures) in
    parenthesized-sized k c.args.opening c.args.value.now c.args.cast.now c.get.result.now (as_operand k.source c.as_plain.result) fs gs is
    (c.as_plain.ensures.value k.source (by_size k c.args.opening x c.get.result.now) fs gs (c.by_size.ensures.value x fs c.operand-inner.ensures.value))
