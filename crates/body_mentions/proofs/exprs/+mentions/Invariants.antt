use Rattle.std.proofs.Common.{◌≡◌, map, drop}
use Rattle.body_mentions.specs.Walk.{in_turn, walk, choice_walk}
use Rattle.body_mentions.proofs.exprs.+mentions.Given as goal

abbrev pub invariant-add_choices-loop-choice : goal.invariant-add_choices-loop-choice
invariant-add_choices-loop-choice l = in_turn (map choice_walk (drop l.choice-index l.choices)) l.to ≡ in_turn (map choice_walk l.fn.choices) l.fn.to

abbrev pub invariant-add_all-loop-e : goal.invariant-add_all-loop-e
invariant-add_all-loop-e l = in_turn (map walk (drop l.e-index l.es)) l.to ≡ in_turn (map walk l.fn.es) l.fn.to
