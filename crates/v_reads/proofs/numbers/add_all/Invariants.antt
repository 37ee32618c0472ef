use Rattle.std.proofs.Common.{◌≡◌, ◌++◌, drop}
use Rattle.v_reads.proofs.numbers.add_all.Given as goal

abbrev pub invariant-loop-number : goal.invariant-loop-number
invariant-loop-number l = l.to ++ drop l.number-index l.numbers ≡ l.fn.to ++ l.fn.numbers
