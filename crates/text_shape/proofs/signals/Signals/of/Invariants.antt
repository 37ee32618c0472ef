use Rattle.std.proofs.Common.{◌≡◌, ◌≤◌, drop}
use Rattle.text_shape.specs.Signals.{entries, adding, no_entries, items_added}
use Rattle.text_shape.proofs.signals.Signals.of.Given as goal

abbrev pub invariant-loop-item : goal.invariant-loop-item
invariant-loop-item l =
    (items_added (drop l.item-index l.items) (adding l.number (entries l.signals)) ≡ items_added l.fn.items (adding 0 no_entries))
    × (l.number ≤ l.item-index)
