use Rattle.std.proofs.Common.{◌+◌, ◌*◌, map, drop}
use Rattle.sv_types.specs.Meanings.{total}
use Rattle.eval_parts.proofs.Nodes.{nodes, choice_nodes}
use Rattle.path_steps.specs.Free.{AllFree, AllChoicesFree}
use Rattle.path_steps.proofs.free.+free.Given as goal

abbrev pub decreases-is_free : goal.decreases-is_free
decreases-is_free l = 3 * nodes l.e.now

abbrev pub decreases-are_free : goal.decreases-are_free
decreases-are_free l = 3 * total (map nodes l.es.now) + 1

abbrev pub decreases-choice_free : goal.decreases-choice_free
decreases-choice_free l = 3 * choice_nodes l.choice.now + 1

abbrev pub decreases-choices_free : goal.decreases-choices_free
decreases-choices_free l = 3 * total (map choice_nodes l.choices.now) + 2

abbrev pub invariant-are_free-loop-e : goal.invariant-are_free-loop-e
invariant-are_free-loop-e l = AllFree (drop l.e-index l.es) → AllFree l.es

abbrev pub invariant-choices_free-loop-choice : goal.invariant-choices_free-loop-choice
invariant-choices_free-loop-choice l = AllChoicesFree (drop l.choice-index l.choices) → AllChoicesFree l.choices
