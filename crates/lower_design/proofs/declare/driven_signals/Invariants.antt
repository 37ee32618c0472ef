use Rattle.std.proofs.Common.{◌≡◌, ◌<◌, ◌||◌, ℕ, length, slice_index_or, false, drop}
use Rattle.lower_design.specs.Lowered.{is_driven}
use Rattle.lower_design.proofs.declare.driven_signals.Given as goal

abbrev pub invariant-loop : goal.invariant-loop
invariant-loop l = record {
  same_length : length l.driven ≡ l.counter;
  unmarked : (n : ℕ) → slice_index_or l.driven n false ≡ false;
}

abbrev pub invariant-loop-process : goal.invariant-loop-process
invariant-loop-process l = record {
  same_length : length l.driven ≡ l.count;
  marked : (n : ℕ) → n < l.count → (slice_index_or l.driven n false || is_driven (drop l.process-index l.processes) n) ≡ is_driven l.processes n;
}
