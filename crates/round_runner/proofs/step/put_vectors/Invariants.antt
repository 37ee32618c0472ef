use Rattle.std.proofs.Common.{◌≡◌, ◌≤◌, length, drop}
use Rattle.round_runner.specs.Rows.{with_vectors}
use Rattle.round_runner.proofs.step.put_vectors.Given as goal

abbrev pub invariant-loop-j : goal.invariant-loop-j
invariant-loop-j l = record {
  within : l.j ≤ length l.signals;
  long : length l.to ≡ length l.initial.to;
  done : l.to ≡ with_vectors (drop l.j l.signals) (drop l.j l.vectors) l.initial.to;
}

abbrev pub decreases-loop-j : goal.decreases-loop-j
decreases-loop-j l = l.j
