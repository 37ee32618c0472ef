use Rattle.v_writer.specs.Layout.{module_line}
use Rattle.v_writer.proofs.Sheets.{in-turn}
use Rattle.v_writer.proofs.writer.write_modules.Goals as goal

pub loop-m-preserved : goal.loop-m-preserved
loop-m-preserved c = in-turn module_line _ _ _ _ _ _ c.loop-m-test.true c.m-item.is c.write_module.ensures c.loop-m.invariant
