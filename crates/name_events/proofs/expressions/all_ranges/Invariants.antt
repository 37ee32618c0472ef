use Rattle.std.proofs.Common.{◌≡◌, drop, map}
use Rattle.name_events.specs.Expressions.{all_ranges, kinds, select_meaning}
use Rattle.name_events.proofs.expressions.all_ranges.Given as goal

abbrev pub invariant-loop-select : goal.invariant-loop-select
invariant-loop-select l = all_ranges (kinds (map select_meaning (drop l.select-index l.selects))) ≡ all_ranges (kinds (map select_meaning l.selects))
