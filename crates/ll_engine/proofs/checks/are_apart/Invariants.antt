use Rattle.std.proofs.Common.{◌≡◌, drop}
use Rattle.ll_engine.specs.Facts.{apart}
use Rattle.ll_engine.proofs.checks.are_apart.Given as goal

abbrev pub invariant-loop-n : goal.invariant-loop-n
invariant-loop-n l = apart l.facts l.heads l.head (drop l.n l.rows) l.n ≡ apart l.facts l.heads l.head l.rows 0
