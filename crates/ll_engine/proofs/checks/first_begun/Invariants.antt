use Rattle.std.proofs.Common.{◌≡◌, drop}
use Rattle.ll_engine.specs.Facts.{first_begun}
use Rattle.ll_engine.proofs.checks.first_begun.Given as goal

abbrev pub invariant-loop-n : goal.invariant-loop-n
invariant-loop-n l =
    first_begun l.blank l.begins l.symbol l.head (drop l.n l.rows) l.n ≡ first_begun l.blank l.begins l.symbol l.head l.rows 0
