use Rattle.std.proofs.Common.{◌≡◌, ◌+◌, ◌*◌, drop, map}
use Rattle.expr_type.specs.Names.{Context}
use Rattle.typing_operators.specs.Children.{nodes, sum}
use Rattle.typing_actions.specs.Actuals.{are_targets}
use Rattle.typing_actions.proofs.actual_forms.+form.Given as goal

abbrev pub decreases-are_targets : goal.decreases-are_targets
decreases-are_targets l = 2 * sum (map nodes l.items.now) + 1

abbrev pub decreases-is_target : goal.decreases-is_target
decreases-is_target l = 2 * nodes l.e.now

abbrev pub invariant-are_targets-loop-item : goal.invariant-are_targets-loop-item
invariant-are_targets-loop-item l = (k : Context) → are_targets k l.items ≡ are_targets k (drop l.item-index l.items)
