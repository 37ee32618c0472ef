use Rattle.std.proofs.Common.{◌≡◌, drop}
use Rattle.ll_engine.specs.Facts.{first_break}
use Rattle.ll_engine.proofs.checks.first_break.Given as goal

abbrev pub invariant-loop-n : goal.invariant-loop-n
invariant-loop-n l = first_break l.rows l.facts l.heads (drop l.n l.rows) l.n ≡ first_break l.rows l.facts l.heads l.rows 0
