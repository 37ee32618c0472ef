use Rattle.std.proofs.Common.{◌≡◌, map, drop}
use Rattle.expr_type.specs.Uses.{in_turn, uses, choice_uses}
use Rattle.constant_types.proofs.exprs.+uses.Given as goal

abbrev pub invariant-add_choices-loop-choice : goal.invariant-add_choices-loop-choice
invariant-add_choices-loop-choice l = in_turn (map choice_uses (drop l.choice-index l.choices)) l.to ≡ in_turn (map choice_uses l.fn.choices) l.fn.to

abbrev pub invariant-add_all-loop-e : goal.invariant-add_all-loop-e
invariant-add_all-loop-e l = in_turn (map uses (drop l.e-index l.es)) l.to ≡ in_turn (map uses l.fn.es) l.fn.to
