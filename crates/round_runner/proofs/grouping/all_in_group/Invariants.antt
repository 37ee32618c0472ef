use Rattle.std.proofs.Common.{◌≡◌, ℕ, ◌<◌, slice_index_or}
use Rattle.round_runner.specs.Plans.{group_at}
use Rattle.round_runner.proofs.grouping.all_in_group.Given as goal

abbrev pub invariant-loop-n : goal.invariant-loop-n
invariant-loop-n l = (k d : ℕ) → k < l.n-index → group_at l.places (slice_index_or l.signals k d) ≡ l.group
