use Rattle.std.proofs.Common.{subst}
use Rattle.std.specs.Prelude.{Result}
use Rattle.expr_type.specs.declared.halt.Halt.{Halt}
use Rattle.pattern_types.specs.declared.operand.Operand.{Operand}
use Rattle.typing_operators.specs.TypingParts.{as_operand}
use Rattle.typing_steps.specs.Steps.{TypesTo}
use Rattle.typing_operators.proofs.OperandLaws.{paren-fine}
use Rattle.typing_exprs.proofs.operands.as_parenthesized.Goals as goal

pub returns-in-Ok : goal.returns-in-Ok
returns-in-Ok c = λ k x fs gs h.
    paren-fine k c.args.opening c.in-Ok.o c.in_parentheses.result x fs gs (c.in_parentheses.ensures k) (subst (λ (i : Result Operand Halt). TypesTo (as_operand k i) (x fs) gs) c.in-Ok.is h)
