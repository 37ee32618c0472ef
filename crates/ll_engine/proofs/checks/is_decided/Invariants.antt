use Rattle.std.proofs.Common.{◌≡◌, drop}
use Rattle.ll_engine.specs.Facts.{decided}
use Rattle.ll_engine.proofs.checks.is_decided.Given as goal

abbrev pub invariant-loop-n : goal.invariant-loop-n
invariant-loop-n l =
    decided l.blank l.head l.part l.behind (drop l.n l.symbols) l.n ≡ decided l.blank l.head l.part l.behind l.symbols 0
