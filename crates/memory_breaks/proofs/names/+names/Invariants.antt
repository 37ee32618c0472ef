use Rattle.std.proofs.Common.{◌≡◌, map, drop}
use Rattle.memory_breaks.specs.Names.{in_turn, first, walk, choice_walk, named}
use Rattle.memory_breaks.proofs.names.+names.Given as goal

abbrev pub invariant-mark_choices-loop-choice : goal.invariant-mark_choices-loop-choice
invariant-mark_choices-loop-choice l = in_turn (map choice_walk (drop l.choice-index l.choices)) named l.marks ≡ in_turn (map choice_walk l.fn.choices) named l.fn.marks

abbrev pub invariant-mark_all_names-loop-e : goal.invariant-mark_all_names-loop-e
invariant-mark_all_names-loop-e l = in_turn (map walk (drop l.e-index l.es)) l.sense l.marks ≡ in_turn (map walk l.fn.es) l.fn.sense l.fn.marks

abbrev pub invariant-mark_first_names-loop-e : goal.invariant-mark_first_names-loop-e
invariant-mark_first_names-loop-e l = first l.left (map walk (drop l.e-index l.es)) l.marks ≡ first l.fn.count (map walk l.fn.es) l.fn.marks
