use Rattle.std.proofs.Common.{subst}
use Rattle.std.specs.Prelude.{Ok}
use Rattle.std.specs.Option.{option_copied, option_map}
use Rattle.sv_tree.specs.declared.operators.AssignmentOperator.{AssignmentOperator}
use Rattle.expr_type.specs.Statements as D
use Rattle.expr_type.specs.Statements.{one}
use Rattle.expr_type.specs.Typings.{whole}
use Rattle.frame_things.specs.Finding.{local_id}
use Rattle.typing_parts.specs.Operands.{as_operand}
use Rattle.typing_steps.specs.Steps.{TypesTo}
use Rattle.typing_steps.proofs.Combining.{rule-types}
use Rattle.typing_actions.specs.Loops as Y
use Rattle.typing_actions.proofs.Assigning.{step-counts}
use Rattle.typing_actions.proofs.loops.counted_step.Goals as goal

pub returns : goal.returns
returns g c = λ fs.
    let k = g.S.Names.context c.args.names.now in
    let o = option_map local_id (option_copied c.args.variable) in
    let x = D.loop_target k o c.args.name in
    let y = whole (one k c.args.at) in
    let value = rule-types (as_operand k.source c.one-value.result) (Ok (one k c.args.at)) fs c.one-value.ensures.value in
    step-counts k o c.args.name c.args.op c.args.at fs fs c.stepped.result
    (subst (λ (op : AssignmentOperator). TypesTo c.stepped.result (Y.stepped k c.args.at op x y fs) fs) c.step_operator.ensures (c.stepped.ensures x y fs fs fs (c.loop_target-to.ensures.value fs) value))
