use Rattle.v_writer.specs.Layout.{lval_layout}
use Rattle.v_writer.proofs.Sheets.{list-turn}
use Rattle.v_writer.proofs.expressions.+write_lval.Goals as goal

pub write_lvals-loop-lval-preserved : goal.write_lvals-loop-lval-preserved
write_lvals-loop-lval-preserved t c =
    list-turn lval_layout _ _ _ _ _ _ _ _ c.loop-lval-test.true c.lval-item.is c.write_comma.ensures c.write_lval.ensures c.loop-lval.invariant
