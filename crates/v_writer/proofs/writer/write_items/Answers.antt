use Rattle.std.proofs.Common.{suc, ap, ◌∙◌}
use Rattle.v_writer.specs.Layout.{line, item_layout}
use Rattle.v_writer.specs.Sheets.{step}
use Rattle.v_writer.proofs.Sheets.{line-turn}
use Rattle.v_writer.proofs.writer.write_items.Goals as goal

pub loop-item-preserved : goal.loop-item-preserved
loop-item-preserved c =
    line-turn item_layout 1 _ _ _ _ _ _ _ c.loop-item-test.true c.item-item.is
    (c.line.ensures ∙ ap (λ n. step c.loop-item.page (line n)) (c.inner.ensures ∙ ap suc c.edge.ensures)) c.write_item.ensures c.loop-item.invariant
