use Rattle.std.proofs.Common.{◌≡◌, ℕ, ◌<◌, length, true, slice_get}
use Rattle.v_top_rules.specs.Orders as means
use Rattle.v_top_rules.proofs.orders.are_settled.Given as goal

abbrev pub invariant-loop-number : goal.invariant-loop-number
invariant-loop-number l = (k : ℕ) → k < l.number → means.is_settled_if (length l.nodes) l.places l.sums (slice_get l.nodes k) k ≡ true
