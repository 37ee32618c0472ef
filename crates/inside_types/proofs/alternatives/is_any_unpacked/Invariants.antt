use Rattle.std.proofs.Common.{◌≡◌, drop}
use Rattle.inside_types.specs.Alternatives.{any_unpacked}
use Rattle.inside_types.proofs.alternatives.is_any_unpacked.Given as goal

abbrev pub invariant-loop-item : goal.invariant-loop-item
invariant-loop-item l = any_unpacked (drop l.item-index l.items) ≡ any_unpacked l.items
