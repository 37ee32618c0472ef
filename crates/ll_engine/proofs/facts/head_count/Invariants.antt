use Rattle.std.proofs.Common.{◌≡◌, ◌≤◌, drop}
use Rattle.ll_engine.specs.Facts.{head_count}
use Rattle.ll_engine.proofs.facts.head_count.Given as goal

abbrev pub invariant-loop-row : goal.invariant-loop-row
invariant-loop-row l = record { same : head_count (drop l.row-index l.rows) l.count ≡ head_count l.rows 0; small : l.count ≤ 65536 }
