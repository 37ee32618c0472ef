use Rattle.std.proofs.Common.{◌≡◌, drop}
use Rattle.ll_engine.specs.Facts.{has_row}
use Rattle.ll_engine.proofs.checks.has_row.Given as goal

abbrev pub invariant-loop-row : goal.invariant-loop-row
invariant-loop-row l = has_row (drop l.row-index l.rows) l.head ≡ has_row l.rows l.head
