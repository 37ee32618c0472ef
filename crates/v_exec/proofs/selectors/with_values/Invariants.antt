use Rattle.std.proofs.Common.{◌≡◌, max, drop, map}
use Rattle.v_meaning.specs.Values.{meaning}
use Rattle.v_eval.specs.Limits.{limits}
use Rattle.v_eval.specs.Scopes.{scope_of}
use Rattle.v_exec.specs.Choices.{widened}
use Rattle.v_exec.specs.Limits.{widest_of}
use Rattle.v_exec.proofs.selectors.with_values.Given as goal

abbrev pub invariant-loop-e : goal.invariant-loop-e
invariant-loop-e l = record {
  meaning : widened l.at (map meaning (drop l.e-index l.values)) (scope_of l.scope) ≡ widened l.fn.at (map meaning l.fn.values) (scope_of l.scope);
  limits : max l.at.width (widest_of (map limits (drop l.e-index l.values)) (scope_of l.scope)) ≡ max l.fn.at.width (widest_of (map limits l.fn.values) (scope_of l.scope));
}
