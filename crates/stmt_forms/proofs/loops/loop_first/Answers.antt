use Rattle.std.proofs.Common.{sym, subst}
use Rattle.expr_type.specs.Answers.{Gives}
use Rattle.expr_type.specs.Statements.{loop_first}
use Rattle.pattern_types.specs.declared.operand.Operand as O
use Rattle.pattern_types.specs.Meaning.{operand_of}
use Rattle.stmt_forms.proofs.Looping.{first-pattern}
use Rattle.stmt_forms.proofs.loops.loop_first.Goals as goal

pub returns-in-Pattern : goal.returns-in-Pattern
returns-in-Pattern c =
    λ k s. subst (λ (o : O.Operand). Gives c.pattern_first.result (loop_first k c.args.t.now (operand_of k.source o))) (sym c.in-Pattern.is)
    (first-pattern k c.args.t.now c.in-Pattern.tick c.in-Pattern.times c.in-Pattern.items c.pattern_first.result (c.pattern_first.ensures k s))
