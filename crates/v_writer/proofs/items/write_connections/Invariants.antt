use Rattle.std.proofs.Common.{◌≡◌, drop, map}
use Rattle.v_writer.specs.Layout.{listed, connection_layout}
use Rattle.v_writer.specs.Sheets.{set}
use Rattle.v_writer.proofs.Sheets.{separated}
use Rattle.v_writer.proofs.items.write_connections.Given as goal

abbrev pub invariant-loop-connection : goal.invariant-loop-connection
invariant-loop-connection l = set l.page (separated l.first (map connection_layout (drop l.connection-index l.connections))) ≡ set l.fn.page (listed (map connection_layout l.connections))
