use Rattle.std.proofs.Common.{◌≡◌, max, map, drop}
use Rattle.sv_types.specs.Meanings.{most}
use Rattle.eval_parts.specs.Insides.{alternative}
use Rattle.eval_forms.specs.Narrow.{AllChoicesNarrow}
use Rattle.expr_fits.specs.Needs.{width_beside, width_inside}
use Rattle.expr_fits.proofs.compared.widest_compared.Given as goal

abbrev pub invariant-loop-choice : goal.invariant-loop-choice
invariant-loop-choice l = record {
  narrow : AllChoicesNarrow (drop l.choice-index l.choices);
  width : max l.widest (most (map (λ c. width_beside l.bits (alternative c)) (drop l.choice-index l.choices))) ≡ width_inside l.bits l.choices;
}
