use Rattle.std.proofs.Common.{◌≡◌, drop, None}
use Rattle.least_breaks.specs.Least.{least_from}
use Rattle.least_breaks.proofs.least_of.Given as goal

abbrev pub invariant-loop-at : goal.invariant-loop-at
invariant-loop-at l = least_from l.least (drop l.at-index l.tokens) ≡ least_from None l.tokens
