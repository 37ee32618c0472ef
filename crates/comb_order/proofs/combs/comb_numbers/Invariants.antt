use Rattle.std.proofs.Common.{◌≡◌, ◌++◌, drop}
use Rattle.comb_order.specs.Combs.{numbers_from}
use Rattle.comb_order.proofs.combs.comb_numbers.Given as goal

abbrev pub invariant-loop-k : goal.invariant-loop-k
invariant-loop-k l = l.numbers ++ numbers_from l.k (drop l.k l.processes) ≡ numbers_from 0 l.processes
