use Rattle.std.proofs.Common.{◌≡◌, drop}
use Rattle.ll_engine.specs.Facts.{first_blank}
use Rattle.ll_engine.proofs.checks.first_blank.Given as goal

abbrev pub invariant-loop-n : goal.invariant-loop-n
invariant-loop-n l = first_blank l.blank l.head (drop l.n l.rows) l.n ≡ first_blank l.blank l.head l.rows 0
