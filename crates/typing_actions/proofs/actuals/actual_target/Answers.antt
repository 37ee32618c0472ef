use Rattle.std.proofs.Common.{sym, ◌∙◌}
use Rattle.typing_actions.proofs.Refusing.{as-refused, as-target}
use Rattle.typing_actions.proofs.actuals.actual_target.Goals as goal

pub target-requires-clause-form : goal.target-requires-clause-form
target-requires-clause-form g c = sym (c.is_target.ensures (g.S.Names.context c.args.names.now)) ∙ c.if-is_target.true

pub returns-then-is_target-clause-value : goal.returns-then-is_target-clause-value
returns-then-is_target-clause-value g c =
    let k = g.S.Names.context c.args.names.now in
    as-target k c.args.e.now c.args.known.now.functions c.target.new.known.functions c.target.result (sym (c.is_target.ensures k) ∙ c.if-is_target.true) c.target.ensures.value

pub returns-else-is_target-clause-value : goal.returns-else-is_target-clause-value
returns-else-is_target-clause-value g c =
    let k = g.S.Names.context c.args.names.now in
    as-refused k c.args.e.now c.args.known.now.functions c.refused.new.known.functions c.refused.result (sym (c.is_target.ensures k) ∙ c.if-is_target.false) c.refused.ensures.value
