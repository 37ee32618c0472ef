use Rattle.std.proofs.Common.{◌≡◌, drop}
use Rattle.pattern_types.specs.Meaning.{item_keys}
use Rattle.pattern_types.specs.Places.{default_from}
use Rattle.pattern_types.proofs.items.default_place.Given as goal

abbrev pub invariant-loop-n : goal.invariant-loop-n
invariant-loop-n l = default_from l.n (item_keys (drop l.n l.items)) ≡ default_from 0 (item_keys l.items)
