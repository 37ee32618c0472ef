use Rattle.std.proofs.Common.{◌≡◌, ◌++◌, drop}
use Rattle.v_zero.proofs.given.copied.Given as goal

abbrev pub invariant-loop-vector : goal.invariant-loop-vector
invariant-loop-vector l = l.made.items ++ drop l.vector-index l.store ≡ l.fn.store
