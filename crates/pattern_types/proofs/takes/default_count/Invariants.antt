use Rattle.std.proofs.Common.{◌≡◌, ◌≤◌, ◌+◌, drop, length}
use Rattle.pattern_types.specs.Meaning.{item_keys}
use Rattle.pattern_types.specs.Takes.{default_keys}
use Rattle.pattern_types.proofs.takes.default_count.Given as goal

abbrev pub invariant-loop-item : goal.invariant-loop-item
invariant-loop-item l = record {
  within : l.n ≤ l.item-index;
  all : l.n + length (default_keys (item_keys (drop l.item-index l.items))) ≡ length (default_keys (item_keys l.items));
}
