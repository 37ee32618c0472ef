use Rattle.std.proofs.Common.{◌≡◌, drop, map}
use Rattle.v_writer.specs.Layout.{listed, port_layout}
use Rattle.v_writer.specs.Sheets.{set}
use Rattle.v_writer.proofs.Sheets.{separated}
use Rattle.v_writer.proofs.writer.write_names.Given as goal

abbrev pub invariant-loop-name : goal.invariant-loop-name
invariant-loop-name l = set l.page (separated l.first (map port_layout (drop l.name-index l.names))) ≡ set l.fn.page (listed (map port_layout l.names))
