use Rattle.v_writer.specs.Layout.{connection_layout}
use Rattle.v_writer.proofs.Sheets.{list-turn}
use Rattle.v_writer.proofs.items.write_connections.Goals as goal

pub loop-connection-preserved : goal.loop-connection-preserved
loop-connection-preserved c =
    list-turn connection_layout _ _ _ _ _ _ _ _ c.loop-connection-test.true c.connection-item.is c.write_comma.ensures c.write_connection.ensures c.loop-connection.invariant
