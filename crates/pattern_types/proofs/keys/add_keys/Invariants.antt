use Rattle.std.proofs.Common.{◌≡◌, ◌++◌, drop, map, true}
use Rattle.expr_type.specs.Answers.{source}
use Rattle.pattern_types.specs.Keys.{all_near, plain_key}
use Rattle.pattern_types.specs.Meaning.{item_keys, keyed_keys}
use Rattle.pattern_types.proofs.keys.add_keys.Given as goal

abbrev pub invariant-loop-item : goal.invariant-loop-item
invariant-loop-item l =
    (all_near l.members (keyed_keys (item_keys (drop l.item-index l.items))) ≡ true)
    × (l.to ++ map (plain_key (source l.text) l.members) (keyed_keys (item_keys (drop l.item-index l.items))) ≡ l.initial.to ++ map (plain_key (source l.text) l.members) (keyed_keys (item_keys l.items)))
