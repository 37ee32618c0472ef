use Rattle.std.proofs.Common.{◌≡◌, drop}
use Rattle.pattern_types.specs.Keys.{reason_of_keys}
use Rattle.pattern_types.specs.Meaning.{item_keys, keyed_keys}
use Rattle.pattern_laws.specs.Reasons.{followed_by}
use Rattle.pattern_types.specs.Reasons.{reason_of}
use Rattle.pattern_types.proofs.keys.look_at_keys.Given as goal

abbrev pub invariant-loop-item : goal.invariant-loop-item
invariant-loop-item l =
    followed_by (reason_of l.seen) (reason_of_keys l.members (keyed_keys (item_keys (drop l.item-index l.items)))) ≡ reason_of_keys l.members (keyed_keys (item_keys l.items))
