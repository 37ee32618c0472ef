use Rattle.std.proofs.Common.{◌≡◌, map, drop}
use Rattle.std.specs.List.{list_any}
use Rattle.expr_type.specs.Targets.{has_enum}
use Rattle.typing_actions.proofs.enum_parts.+parts.Given as goal

abbrev pub invariant-any_has-loop-e : goal.invariant-any_has-loop-e
invariant-any_has-loop-e l = list_any (λ b. b) (map has_enum (drop l.e-index l.es)) ≡ list_any (λ b. b) (map has_enum l.fn.es)
