use Rattle.std.proofs.Common.{◌+◌, ◌*◌, map, drop}
use Rattle.sv_types.specs.Meanings.{total}
use Rattle.eval_parts.proofs.Nodes.{nodes, choice_nodes}
use Rattle.lowered_forms.specs.Inner.{AllLowered, AllChoicesLowered}
use Rattle.lowered_forms.proofs.forms.+lowered.Given as goal

abbrev pub decreases-is_lowered : goal.decreases-is_lowered
decreases-is_lowered l = 3 * nodes l.e.now

abbrev pub decreases-all_lowered : goal.decreases-all_lowered
decreases-all_lowered l = 3 * total (map nodes l.es.now) + 1

abbrev pub decreases-choice_lowered : goal.decreases-choice_lowered
decreases-choice_lowered l = 3 * choice_nodes l.choice.now + 1

abbrev pub decreases-choices_lowered : goal.decreases-choices_lowered
decreases-choices_lowered l = 3 * total (map choice_nodes l.choices.now) + 2

abbrev pub invariant-all_lowered-loop-e : goal.invariant-all_lowered-loop-e
invariant-all_lowered-loop-e l = AllLowered (drop l.e-index l.es) → AllLowered l.es

abbrev pub invariant-choices_lowered-loop-choice : goal.invariant-choices_lowered-loop-choice
invariant-choices_lowered-loop-choice l = AllChoicesLowered (drop l.choice-index l.choices) → AllChoicesLowered l.choices
