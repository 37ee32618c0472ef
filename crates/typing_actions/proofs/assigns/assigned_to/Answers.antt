use Rattle.expr_type.specs.Expressions.{meaning}
use Rattle.expr_type.specs.Targets.{target}
use Rattle.typing_parts.proofs.Keeping.{extends-then}
use Rattle.typing_actions.proofs.assigns.assigned_to.Goals as goal

pub returns-clause-value : goal.returns-clause-value
returns-clause-value g c =
    let k = g.S.Names.context c.args.names.now in
    c.assigned.ensures (target c.args.to.now k c.args.in_statement) ((meaning c.args.e.now).typed k) c.args.known.now.functions c.target-to.new.known.functions c.operand-value.new.known.functions c.target-to.ensures.value
    c.operand-value.ensures.value

pub returns-clause-keeps : goal.returns-clause-keeps
returns-clause-keeps g c = extends-then _ _ _ c.target-to.ensures.keeps c.operand-value.ensures.keeps
