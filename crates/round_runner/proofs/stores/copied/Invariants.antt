use Rattle.std.proofs.Common.{◌≡◌, take}
use Rattle.round_runner.proofs.stores.copied.Given as goal

abbrev pub invariant-loop-vector : goal.invariant-loop-vector
invariant-loop-vector l = l.copy.items ≡ take l.vector-index l.store
