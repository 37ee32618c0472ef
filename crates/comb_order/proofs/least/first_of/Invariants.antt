use Rattle.std.proofs.Common.{◌<◌, length}
use Rattle.comb_order.proofs.First.{IsFirstUpTo}
use Rattle.comb_order.proofs.least.first_of.Given as goal

abbrev pub invariant-loop-n : goal.invariant-loop-n
invariant-loop-n l = record {
  within : l.first < length l.processes;
  first : IsFirstUpTo l.processes l.numbers l.n-index l.first;
}
