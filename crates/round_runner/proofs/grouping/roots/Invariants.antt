use Rattle.std.proofs.Common.{◌≡◌, ◌<◌, length, All}
use Rattle.round_runner.proofs.grouping.roots.Given as goal

abbrev pub invariant-loop-n : goal.invariant-loop-n
invariant-loop-n l = record {
  long : length l.all ≡ l.n;
  there : All (λ g. g < length l.parents) l.all;
}
