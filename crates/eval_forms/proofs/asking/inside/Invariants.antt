use Rattle.std.proofs.Common.{◌≡◌, ◌∷◌, ◌++◌, map, flat_map, drop}
use Rattle.sv_types.specs.declared.expression.Choice.{out-Choice}
use Rattle.eval_forms.specs.Asked.{asked, alone_asked, choice_asked}
use Rattle.eval_forms.specs.Narrow.{AllChoicesNarrow}
use Rattle.eval_forms.proofs.asking.inside.Given as goal

abbrev pub invariant-loop-choice : goal.invariant-loop-choice
invariant-loop-choice l = record {
  narrow : AllChoicesNarrow (drop l.choice-index l.choices);
  made :
      map asked l.all.items ++ flat_map (λ c. choice_asked l.x (out-Choice c)) (drop l.choice-index l.choices)
      ≡ alone_asked l.x ∷ flat_map (λ c. choice_asked l.x (out-Choice c)) l.choices;
}
