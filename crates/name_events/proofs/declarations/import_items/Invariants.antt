use Rattle.std.proofs.Common.{◌≡◌, drop}
use Rattle.name_events.specs.Types as means
use Rattle.name_events.proofs.declarations.import_items.Given as goal

abbrev pub invariant-loop-item : goal.invariant-loop-item
invariant-loop-item l = means.import_items (drop l.item-index l.items) l.to ≡ means.import_items l.items l.fn.to
