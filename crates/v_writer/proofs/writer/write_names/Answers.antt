use Rattle.v_writer.specs.Layout.{port_layout}
use Rattle.v_writer.proofs.Sheets.{list-turn}
use Rattle.v_writer.proofs.writer.write_names.Goals as goal

pub loop-name-preserved : goal.loop-name-preserved
loop-name-preserved c =
    list-turn port_layout _ _ _ _ _ _ _ _ c.loop-name-test.true c.name-item.is c.write_comma.ensures c.name.ensures c.loop-name.invariant
