use Rattle.v_writer.specs.Layout.{stmt_layout, case_layout}
use Rattle.v_writer.specs.Margins.{levels}
use Rattle.v_writer.proofs.Sheets.{placed-turn}
use Rattle.v_writer.proofs.statements.+write_stmt.Goals as goal

pub write_lines-loop-stmt-preserved : goal.write_lines-loop-stmt-preserved
write_lines-loop-stmt-preserved t c =
    placed-turn stmt_layout (levels c.args.margin) _ _ _ _ _ _ _ c.loop-stmt-test.true c.stmt-item.is c.line.ensures c.write_stmt.ensures c.loop-stmt.invariant

pub write_items-loop-item-preserved : goal.write_items-loop-item-preserved
write_items-loop-item-preserved t c =
    placed-turn case_layout (levels c.args.margin) _ _ _ _ _ _ _ c.loop-item-test.true c.item-item.is c.line.ensures c.write_item.ensures c.loop-item.invariant
