use Rattle.std.proofs.Common.{◌≡◌, ◌≤◌, drop, map}
use Rattle.std.specs.List.{list_any}
use Rattle.v_meaning.specs.Runs.{matches}
use Rattle.v_meaning.specs.Values.{meaning}
use Rattle.v_eval.specs.Holding.{holds}
use Rattle.v_eval.specs.Limits.{limits}
use Rattle.v_eval.specs.Scopes.{scope_of}
use Rattle.v_exec.specs.Choices.{selector_of}
use Rattle.v_exec.specs.Limits.{most_at}
use Rattle.v_exec.proofs.choices.is_matched.Given as goal

abbrev pub invariant-loop-e : goal.invariant-loop-e
invariant-loop-e g l = record {
  matched :
      list_any (matches (selector_of l.selector) (scope_of l.around.scope) (holds l.around.held)) (map meaning (drop l.e-index l.values))
      ≡ list_any (matches (selector_of l.selector) (scope_of l.around.scope) (holds l.around.held)) (map meaning l.fn.values);
  narrow : most_at l.selector.at.width (map limits (drop l.e-index l.values)) (scope_of l.around.scope) ≤ 128;
}
