use Rattle.std.proofs.Common.{◌≡◌, drop, map}
use Rattle.v_writer.specs.Layout.{lines, local_layout}
use Rattle.v_writer.specs.Margins.{levels}
use Rattle.v_writer.specs.Sheets.{set}
use Rattle.v_writer.proofs.statements.write_locals.Given as goal

abbrev pub invariant-loop-local : goal.invariant-loop-local
invariant-loop-local l = set l.page (lines (levels l.margin) (map (local_layout l.keyword) (drop l.local-index l.locals))) ≡ set l.fn.page (lines (levels l.margin) (map (local_layout l.keyword) l.locals))
