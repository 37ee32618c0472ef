use Rattle.std.proofs.Common.{◌≡◌, max, drop}
use Rattle.run_fits.specs.Statements.{item_widths}
use Rattle.run_fits.proofs.expressions.widest_item.Given as goal

abbrev pub invariant-loop-item : goal.invariant-loop-item
invariant-loop-item l = max l.most (item_widths (drop l.item-index l.items)) ≡ item_widths l.items
