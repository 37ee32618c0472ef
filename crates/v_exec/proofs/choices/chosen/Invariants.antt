use Rattle.std.proofs.Common.{◌≡◌, ◌≤◌, drop, map}
use Rattle.row_machine.specs.Valuation.{Valuation}
use Rattle.v_meaning.specs.Runs.{Run, State, current, first_match}
use Rattle.v_meaning.specs.Statements.{item_runs}
use Rattle.v_eval.specs.Holding.{holds}
use Rattle.v_eval.specs.Scopes.{scope_of}
use Rattle.v_exec.specs.Choices.{item_of, selector_of}
use Rattle.v_exec.specs.Limits.{limits_of_item, values_in, most_at}
use Rattle.v_exec.proofs.choices.chosen.Given as goal

abbrev pub invariant-loop-i : goal.invariant-loop-i
invariant-loop-i g l = record {
  left :
      (other : Run) (v : Valuation) (s : State)
      → holds l.around.held ≡ current v s
      → first_match (selector_of l.selector) (item_runs (map item_of (drop l.i l.items))) other (scope_of l.around.scope) v s
      ≡ first_match (selector_of l.selector) (item_runs (map item_of l.fn.items)) other (scope_of l.around.scope) v s;
  narrow : most_at l.selector.at.width (values_in (map limits_of_item (drop l.i l.items))) (scope_of l.around.scope) ≤ 128;
}
