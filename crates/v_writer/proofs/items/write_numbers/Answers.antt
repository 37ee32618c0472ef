use Rattle.v_writer.specs.Layout.{number_layout}
use Rattle.v_writer.proofs.Sheets.{list-turn}
use Rattle.v_writer.proofs.items.write_numbers.Goals as goal

pub loop-number-preserved : goal.loop-number-preserved
loop-number-preserved c =
    list-turn number_layout _ _ _ _ _ _ _ _ c.loop-number-test.true c.number-item.is c.write_comma.ensures c.number.ensures c.loop-number.invariant
