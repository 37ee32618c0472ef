use Rattle.std.proofs.Common.{true, subst}
use Rattle.std.specs.Prelude.{Ok}
use Rattle.sv_tree.specs.declared.operators.AssignmentOperator.{AssignmentOperator}
use Rattle.expr_type.specs.Statements.{one}
use Rattle.expr_type.specs.Typings.{whole}
use Rattle.typing_parts.specs.Operands.{as_operand}
use Rattle.typing_steps.specs.Steps.{TypesTo}
use Rattle.typing_steps.proofs.Combining.{rule-types}
use Rattle.typing_actions.specs.Walks as W
use Rattle.typing_actions.proofs.Assigning.{counted-types}
use Rattle.typing_actions.proofs.assigns.counted.Goals as goal

pub returns-clause-value : goal.returns-clause-value
returns-clause-value g c =
    let k = g.S.Names.context c.args.names.now in
    let fs = c.args.known.now.functions in
    let gs = c.name_target-to.new.known.functions in
    let x = W.path_of_name k true c.args.name c.args.selects.now in
    let y = whole (one k c.args.at) in
    let value = rule-types (as_operand k.source c.one-value.result) (Ok (one k c.args.at)) gs c.one-value.ensures.value in
    counted-types k c.args.name c.args.op c.args.at c.args.selects.now fs gs c.assigned.result
    (subst (λ (op : AssignmentOperator). TypesTo c.assigned.result (W.assigned k c.args.at op x y fs) gs) c.step_operator.ensures (c.assigned.ensures x y fs gs gs c.name_target-to.ensures.value value))
