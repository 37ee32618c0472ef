use Rattle.std.proofs.Common.{◌≡◌, drop}
use Rattle.ll_engine.specs.Facts.{alone}
use Rattle.ll_engine.proofs.checks.is_alone.Given as goal

abbrev pub invariant-loop-n : goal.invariant-loop-n
invariant-loop-n l =
    alone l.blank l.heads l.row l.head l.parts (drop l.n l.symbols) l.n ≡ alone l.blank l.heads l.row l.head l.parts l.symbols 0
