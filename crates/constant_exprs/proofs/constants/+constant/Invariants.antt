use Rattle.std.proofs.Common.{◌+◌, ◌*◌, map, drop, Bool}
use Rattle.sv_types.specs.Meanings.{total}
use Rattle.eval_parts.proofs.Nodes.{nodes, choice_nodes}
use Rattle.constant_exprs.specs.Constants.{AllConstantIf, meanings, alternatives}
use Rattle.constant_exprs.proofs.constants.+constant.Given as goal

abbrev pub decreases-is_constant : goal.decreases-is_constant
decreases-is_constant l = 3 * nodes l.e.now

abbrev pub decreases-are_constant : goal.decreases-are_constant
decreases-are_constant l = 3 * total (map nodes l.es.now) + 1

abbrev pub decreases-choice_constant : goal.decreases-choice_constant
decreases-choice_constant l = 3 * choice_nodes l.choice.now + 1

abbrev pub decreases-choices_constant : goal.decreases-choices_constant
decreases-choices_constant l = 3 * total (map choice_nodes l.choices.now) + 2

abbrev pub invariant-are_constant-loop-e : goal.invariant-are_constant-loop-e
invariant-are_constant-loop-e l = (b : Bool) → AllConstantIf b (meanings (drop l.e-index l.es)) → AllConstantIf b (meanings l.es)

abbrev pub invariant-choices_constant-loop-choice : goal.invariant-choices_constant-loop-choice
invariant-choices_constant-loop-choice l = (b : Bool) → AllConstantIf b (alternatives (drop l.choice-index l.choices)) → AllConstantIf b (alternatives l.choices)
