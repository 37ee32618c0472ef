use Rattle.v_writer.specs.Layout.{sel_layout, expr_layout}
use Rattle.v_writer.proofs.Sheets.{in-turn, list-turn}
use Rattle.v_writer.proofs.expressions.+write_expr.Goals as goal

pub write_sels-loop-sel-preserved : goal.write_sels-loop-sel-preserved
write_sels-loop-sel-preserved t c = in-turn sel_layout _ _ _ _ _ _ c.loop-sel-test.true c.sel-item.is c.write_sel.ensures c.loop-sel.invariant

pub write_list-loop-expr-preserved : goal.write_list-loop-expr-preserved
write_list-loop-expr-preserved t c =
    list-turn expr_layout _ _ _ _ _ _ _ _ c.loop-expr-test.true c.expr-item.is c.write_comma.ensures c.write_expr.ensures c.loop-expr.invariant
