use Rattle.std.proofs.Common.{◌≡◌, drop}
use Rattle.v_writer.specs.Layout.{further_edges}
use Rattle.v_writer.specs.Sheets.{set}
use Rattle.v_writer.proofs.items.write_further_edges.Given as goal

abbrev pub invariant-loop-edge : goal.invariant-loop-edge
invariant-loop-edge l = set l.page (further_edges (drop l.edge-index l.edges)) ≡ set l.fn.page (further_edges l.edges)
