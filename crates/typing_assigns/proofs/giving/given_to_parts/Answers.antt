use Rattle.std.proofs.Common.{subst}
use Rattle.expr_type.specs.Answers.{Gives}
use Rattle.expr_type.specs.Operands.{passed}
use Rattle.pattern_types.specs.Meaning.{operand_of}
use Rattle.typing_assigns.proofs.Enums.{given-stream, given-whole}
use Rattle.typing_assigns.proofs.giving.given_to_parts.Goals as goal

pub returns-in-None : goal.returns-in-None
returns-in-None g c =
    let k = (g.S.Names.context c.args.names.now).source in
    given-stream k c.args.t.now c.args.has_enum (operand_of k c.args.o) c.given_to_path.result (c.in-None.ensures k) c.given_to_path.ensures

pub returns-in-Some : goal.returns-in-Some
returns-in-Some g c =
    let k = (g.S.Names.context c.args.names.now).source in
    given-whole k c.args.t.now c.args.has_enum c.args.o c.in-Some.first c.passed.result c.no_enum.result (c.in-Some.ensures k) c.no_enum.ensures
    (subst (λ s. Gives c.passed.result (passed s c.args.t.now (operand_of s c.args.o))) c.text-text.ensures c.passed.ensures)
