use Rattle.std.proofs.Common.{◌≡◌, ◌++◌, drop}
use Rattle.memory_targets.proofs.targets.select_copies.Given as goal

abbrev pub invariant-loop-sel : goal.invariant-loop-sel
invariant-loop-sel l = l.made ++ drop l.sel-index l.sels ≡ l.sels
