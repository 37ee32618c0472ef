use Rattle.std.proofs.Common.{◌≡◌, ◌++◌, drop}
use Rattle.ll_engine.specs.Facts.{begun_rows}
use Rattle.ll_engine.proofs.checks.begun_rows.Given as goal

abbrev pub invariant-loop-n : goal.invariant-loop-n
invariant-loop-n l =
    l.all ++ begun_rows l.blank l.head l.rows (drop l.n l.symbols) l.n ≡ begun_rows l.blank l.head l.rows l.symbols 0
