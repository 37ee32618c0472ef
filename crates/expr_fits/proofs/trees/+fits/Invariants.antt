use Rattle.std.proofs.Common.{◌+◌, ◌*◌, map, drop}
use Rattle.sv_types.specs.Meanings.{total}
use Rattle.eval_parts.specs.Limits.{AllFit, AllFitAt}
use Rattle.eval_parts.specs.Targets.{marks_of}
use Rattle.eval_parts.proofs.Nodes.{nodes, choice_nodes}
use Rattle.eval_forms.specs.Callees.{formals_in}
use Rattle.expr_fits.specs.Needs.{AllChoicesFit}
use Rattle.expr_fits.proofs.trees.+fits.Given as goal

abbrev pub decreases-fits : goal.decreases-fits
decreases-fits l = 4 * nodes l.e.now + 1

abbrev pub decreases-fits_alone : goal.decreases-fits_alone
decreases-fits_alone l = 4 * nodes l.e.now + 2

abbrev pub decreases-each_fits : goal.decreases-each_fits
decreases-each_fits l = 4 * total (map nodes l.es.now) + 4

abbrev pub decreases-placed_fit : goal.decreases-placed_fit
decreases-placed_fit l = 4 * total (map nodes l.es.now) + 4

abbrev pub decreases-choice_fits : goal.decreases-choice_fits
decreases-choice_fits l = 4 * choice_nodes l.choice.now + 3

abbrev pub decreases-side_fits : goal.decreases-side_fits
decreases-side_fits l = 4 * nodes l.side.now + 2

abbrev pub decreases-choices_fit : goal.decreases-choices_fit
decreases-choices_fit l = 4 * total (map choice_nodes l.choices.now) + 4

abbrev pub invariant-each_fits-loop-e : goal.invariant-each_fits-loop-e
invariant-each_fits-loop-e l = AllFit (drop l.e-index l.es) (formals_in l.functions) → AllFit l.es (formals_in l.functions)

abbrev pub invariant-placed_fit-loop-i : goal.invariant-placed_fit-loop-i
invariant-placed_fit-loop-i l =
    AllFitAt (drop l.i (marks_of l.places)) (drop l.i l.es) (formals_in l.functions) → AllFitAt (marks_of l.places) l.es (formals_in l.functions)

abbrev pub invariant-choices_fit-loop-choice : goal.invariant-choices_fit-loop-choice
invariant-choices_fit-loop-choice l = AllChoicesFit l.bits (formals_in l.functions) (drop l.choice-index l.choices) → AllChoicesFit l.bits (formals_in l.functions) l.choices
