use Rattle.std.proofs.Common.{◌≡◌, drop}
use Rattle.ll_engine.specs.Facts.{parts_keep}
use Rattle.ll_engine.proofs.checks.parts_keep.Given as goal

abbrev pub invariant-loop-n : goal.invariant-loop-n
invariant-loop-n l = parts_keep l.rows l.facts l.head (drop l.n l.parts) ≡ parts_keep l.rows l.facts l.head l.parts
