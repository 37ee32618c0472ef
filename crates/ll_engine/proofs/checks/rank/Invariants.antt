use Rattle.std.proofs.Common.{◌≡◌, ◌+◌, ◌≤◌, drop}
use Rattle.ll_engine.specs.Facts.{rank_in}
use Rattle.ll_engine.proofs.checks.rank.Given as goal

abbrev pub invariant-loop-marks : goal.invariant-loop-marks
invariant-loop-marks l = record {
  same : l.rank + rank_in (drop l.marks-index l.reaches) l.head ≡ rank_in l.reaches l.head;
  small : l.rank ≤ l.marks-index;
}
