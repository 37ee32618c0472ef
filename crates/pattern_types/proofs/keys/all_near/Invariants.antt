use Rattle.std.proofs.Common.{◌≡◌, drop}
use Rattle.pattern_types.specs.Keys.{all_near}
use Rattle.pattern_types.specs.Meaning.{item_keys, keyed_keys}
use Rattle.pattern_types.proofs.keys.all_near.Given as goal

abbrev pub invariant-loop-item : goal.invariant-loop-item
invariant-loop-item l = all_near l.members (keyed_keys (item_keys (drop l.item-index l.items))) ≡ all_near l.members (keyed_keys (item_keys l.items))
