use Rattle.std.specs.Option.{option_copied, option_map}
use Rattle.expr_type.specs.Expressions.{meaning}
use Rattle.expr_type.specs.Statements as D
use Rattle.frame_things.specs.Finding.{local_id}
use Rattle.typing_actions.proofs.loops.assigned_step.Goals as goal

pub returns-clause-value : goal.returns-clause-value
returns-clause-value g c =
    let k = g.S.Names.context c.args.names.now in
    let fs = c.args.known.now.functions in
    c.stepped.ensures (D.loop_target k (option_map local_id (option_copied c.args.variable)) c.args.name) ((meaning c.args.e.now).typed k) fs fs c.operand-value.new.known.functions (c.loop_target-to.ensures.value fs) c.operand-value.ensures.value
