use Rattle.std.proofs.Common.{◌≡◌, ◌≤◌, drop}
use Rattle.ll_engine.specs.Facts.{width}
use Rattle.ll_engine.proofs.facts.width.Given as goal

abbrev pub invariant-loop-row : goal.invariant-loop-row
invariant-loop-row l = record { same : width (drop l.row-index l.rows) l.width ≡ width l.rows 0; small : l.width ≤ 65536 }
