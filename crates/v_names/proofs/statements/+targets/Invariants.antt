use Rattle.std.proofs.Common.{◌≡◌, ◌++◌, map, drop}
use Rattle.std.specs.Prelude.{flat_map}
use Rattle.v_meaning.specs.Statements.{Target, target}
use Rattle.v_eval.specs.Scopes.{scope_of}
use Rattle.v_names.proofs.statements.+targets.Given as goal

abbrev pub invariant-lvals_names-loop-part : goal.invariant-lvals_names-loop-part
invariant-lvals_names-loop-part l =
    l.to ++ flat_map (λ (t : Target). t.names (scope_of l.scope)) (map target (drop l.part-index l.parts))
    ≡ l.fn.to ++ flat_map (λ (t : Target). t.names (scope_of l.fn.scope)) (map target l.fn.parts)
