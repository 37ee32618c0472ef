use Rattle.std.proofs.Common.{sym, subst}
use Rattle.expr_type.specs.declared.operand.Valued.{Valued}
use Rattle.expr_type.specs.Answers.{Gives, source}
use Rattle.expr_type.specs.Typings.{Checked}
use Rattle.choice_types.proofs.Choosing.{choice-whole, choice-halts}
use Rattle.choice_types.proofs.choices.choice_by_rules.Goals as goal

pub returns-in-Err-clause-value : goal.returns-in-Err-clause-value
returns-in-Err-clause-value c = choice-halts c.in-Err.halt (source c.args.text) c.args.at c.args.parts.on c.args.parts.arms.left c.args.parts.arms.right c.in-Err.ensures

pub returns-in-Ok-clause-value : goal.returns-in-Ok-clause-value
returns-in-Ok-clause-value c =
    subst (λ (m : Checked Valued). Gives c.choose.result m) (sym (choice-whole (source c.args.text) c.args.at c.args.parts.on c.args.parts.arms.left c.args.parts.arms.right c.in-Ok.ensures)) c.choose.ensures.value
