use Rattle.std.proofs.Common.{◌≡◌, Some}
use Rattle.typing_parts.specs.Operands.{as_operand}
use Rattle.typing_operators.specs.TypingValues.{to_word}
use Rattle.typing_exprs.proofs.CastFormsCasting.{cast-can}
use Rattle.typing_exprs.proofs.Casting.{word-alone, word-cast}
use Rattle.typing_exprs.proofs.names.word.Goals as goal

pub to_word-requires-clause-can : goal.to_word-requires-clause-can
to_word-requires-clause-can g c =
    let is : c.args.cast.now ≡ Some c.get.result.now = cc (c.in-Some.is, c.get.ensures) in
    cast-can _ _ _ _ _ _ _ c.args.cast.now c.get.result.now is c.requires.can

pub returns-in-None-clause-value : goal.returns-in-None-clause-value
returns-in-None-clause-value g c = word-alone (g.S.Names.context c.args.names.now) c.args.of c.args.packed.now c.args.cast.now c.args.known.now.functions c.in-None.is

pub returns-in-Some-clause-value : goal.returns-in-Some-clause-value
returns-in-Some-clause-value g c =
    let k = g.S.Names.context c.args.names.now in
    let fs = c.args.known.now.functions in
    let gs = c.to_word.new.known.functions in
    let is : c.args.cast.now ≡ Some c.get.result.now = cc (c.in-Some.is, c.get.ensures) in
    word-cast k c.args.of c.args.packed.now c.args.cast.now c.get.result.now (as_operand k.source c.plain_operand.result) fs gs is
    (c.plain_operand.ensures.value k.source (to_word k c.args.of c.args.packed.now c.get.result.now) fs gs c.to_word.ensures.value)
