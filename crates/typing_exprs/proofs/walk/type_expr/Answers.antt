use Rattle.std.proofs.Common.{subst}
use Rattle.std.specs.Option.{option_copied}
use Rattle.expr_type.specs.Answers.{Gives}
use Rattle.expr_type.specs.Expressions.{given_if, operand}
use Rattle.expr_type.specs.Names.{Source}
use Rattle.expr_type.specs.Typings.{rule}
use Rattle.pattern_types.specs.Meaning.{operand_of}
use Rattle.typing_steps.proofs.Combining.{checked-fine, rule-types}
use Rattle.typing_exprs.proofs.walk.type_expr.Goals as goal

pub returns-clause-value : goal.returns-clause-value
returns-clause-value g c =
    let k = g.S.Names.context c.args.names.now in
    let gs = c.operand.new.known.functions in
    let want = option_copied c.args.want in
    let o = operand_of k.source c.in_ok-o.o in
    let given = subst (λ (s : Source). Gives c.given_if.result (given_if s want (operand_of s c.in_ok-o.o))) c.text.ensures c.given_if.ensures in
    checked-fine (operand k c.args.e.now) (λ u. rule (given_if k.source want u)) c.args.known.now.functions gs gs o c.given_if.result c.in_ok-o.ensures.value (rule-types c.given_if.result (given_if k.source want o) gs given)
