use Rattle.std.proofs.Common.{◌≡◌, ◌<◌, ℕ}
use Rattle.round_runner.specs.Stores.{vector_of}
use Rattle.round_runner.proofs.stores.first_change.Given as goal

abbrev pub invariant-loop-n : goal.invariant-loop-n
invariant-loop-n l = (k : ℕ) → k < l.n → vector_of l.old k ≡ vector_of l.new k
