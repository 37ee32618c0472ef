use Rattle.std.proofs.Common.{◌≡◌, Some}
use Rattle.typing_parts.specs.Operands.{as_operand}
use Rattle.typing_operators.specs.TypingValuesParts as P
use Rattle.typing_exprs.proofs.CastFormsCasting.{cast-can}
use Rattle.typing_operators.proofs.Premises.{path-fits}
use Rattle.typing_exprs.proofs.Casting.{name-alone, name-cast}
use Rattle.typing_exprs.proofs.names.name.Goals as goal

pub named_path-requires-clause-names : goal.named_path-requires-clause-names
named_path-requires-clause-names g c = c.requires.names.context

pub to_name-requires-clause-names : goal.to_name-requires-clause-names
to_name-requires-clause-names g c = c.requires.names.context

pub to_name-requires-clause-fits : goal.to_name-requires-clause-fits
to_name-requires-clause-fits g c = record {
  fits = λ v gs h. path-fits (g.S.Names.context c.args.names.now) c.args.of c.args.selects.now c.args.known.now.functions c.requires.names c.requires.written c.requires.ready.sound v gs h;
}

pub to_name-requires-clause-can : goal.to_name-requires-clause-can
to_name-requires-clause-can g c =
    let is : c.args.cast.now ≡ Some c.get.result.now = cc (c.in-Some.is, c.get.ensures) in
    cast-can _ _ _ _ _ _ _ c.args.cast.now c.get.result.now is c.requires.can

pub returns-in-None-clause-value : goal.returns-in-None-clause-value
returns-in-None-clause-value g c =
    let k = g.S.Names.context c.args.names.now in
    let fs = c.args.known.now.functions in
    let gs = c.named_path.new.known.functions in
    name-alone k c.args.of c.args.selects.now c.args.cast.now (as_operand k.source c.plain_operand.result) fs gs c.in-None.is
    (c.plain_operand.ensures.value k.source (P.named_path k c.args.of c.args.selects.now) fs gs c.named_path.ensures.value)

pub returns-in-Some-clause-value : goal.returns-in-Some-clause-value
returns-in-Some-clause-value g c =
    let k = g.S.Names.context c.args.names.now in
    let fs = c.args.known.now.functions in
    let gs = c.to_name.new.known.functions in
    let is : c.args.cast.now ≡ Some c.get.result.now = cc (c.in-Some.is, c.get.ensures) in
    name-cast k c.args.of c.args.selects.now c.args.cast.now c.get.result.now (as_operand k.source c.plain_operand-in-Some.result) fs gs is
    (c.plain_operand-in-Some.ensures.value k.source (P.to_name k c.args.of c.args.selects.now c.get.result.now) fs gs c.to_name.ensures.value)
