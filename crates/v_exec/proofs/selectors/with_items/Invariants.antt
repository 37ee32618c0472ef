use Rattle.std.proofs.Common.{◌≡◌, max, drop, map}
use Rattle.v_meaning.specs.Statements.{item_values}
use Rattle.v_eval.specs.Scopes.{scope_of}
use Rattle.v_exec.specs.Choices.{item_of, widened}
use Rattle.v_exec.specs.Limits.{limits_of_item, values_in, widest_of}
use Rattle.v_exec.proofs.selectors.with_items.Given as goal

abbrev pub invariant-loop-item : goal.invariant-loop-item
invariant-loop-item l = record {
  meaning : widened l.at (item_values (map item_of (drop l.item-index l.items))) (scope_of l.scope) ≡ widened l.fn.at (item_values (map item_of l.fn.items)) (scope_of l.scope);
  limits :
      max l.at.width (widest_of (values_in (map limits_of_item (drop l.item-index l.items))) (scope_of l.scope))
      ≡ max l.fn.at.width (widest_of (values_in (map limits_of_item l.fn.items)) (scope_of l.scope));
}
