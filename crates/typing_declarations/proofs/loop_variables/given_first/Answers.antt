use Rattle.std.proofs.Common.{sym, ap}
use Rattle.expr_type.specs.Types.{TypeFound}
use Rattle.pattern_types.specs.Meaning.{operand_of}
use Rattle.typing_declarations.proofs.Starting.{given-found, narrow-plain, short-found}
use Rattle.typing_declarations.proofs.loop_variables.given_first.Goals as goal

pub loop_first-requires-clause-short : goal.loop_first-requires-clause-short
loop_first-requires-clause-short g c = short-found c.args.of.now c.in-Ok.of c.of.inside.of c.in-Ok.is (ap (λ (f : TypeFound). f.of) (sym c.of.view_is)) c.requires.narrow

pub loop_first-requires-clause-narrow : goal.loop_first-requires-clause-narrow
loop_first-requires-clause-narrow g c = narrow-plain c.args.o c.requires.operand

pub returns-in-Ok : goal.returns-in-Ok
returns-in-Ok g c =
    let k = g.S.Names.context c.args.names.now in
    given-found k c.args.of.now c.in-Ok.of c.of.inside.of (operand_of k.source c.args.o) c.loop_first.result c.in-Ok.is (ap (λ (f : TypeFound). f.of) (sym c.of.view_is)) (c.loop_first.ensures k c.text.ensures)
