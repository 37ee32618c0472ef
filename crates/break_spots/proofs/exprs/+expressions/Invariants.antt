use Rattle.std.proofs.Common.{◌≡◌, map, drop}
use Rattle.std.specs.Prelude.{option_copied}
use Rattle.break_spots.specs.Walk.{in_turn, expr_walk, choice_walk}
use Rattle.break_spots.proofs.exprs.+expressions.Given as goal

abbrev pub invariant-in_choices-loop-choice : goal.invariant-in_choices-loop-choice
invariant-in_choices-loop-choice l = in_turn (map (choice_walk l.at) (drop l.choice-index l.choices)) (option_copied l.first) ≡ in_turn (map (choice_walk l.at) l.choices) (option_copied l.found)

abbrev pub invariant-in_exprs-loop-e : goal.invariant-in_exprs-loop-e
invariant-in_exprs-loop-e l = in_turn (map (expr_walk l.at) (drop l.e-index l.es)) (option_copied l.first) ≡ in_turn (map (expr_walk l.at) l.es) (option_copied l.found)
