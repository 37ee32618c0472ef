use Rattle.std.proofs.Common.{◌≡◌, drop, map}
use Rattle.v_writer.specs.Layout.{lines, item_layout}
use Rattle.v_writer.specs.Sheets.{set}
use Rattle.v_writer.proofs.writer.write_items.Given as goal

abbrev pub invariant-loop-item : goal.invariant-loop-item
invariant-loop-item l = set l.page (lines 1 (map item_layout (drop l.item-index l.items))) ≡ set l.fn.page (lines 1 (map item_layout l.items))
