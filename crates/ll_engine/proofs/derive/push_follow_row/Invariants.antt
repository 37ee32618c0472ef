use Rattle.std.proofs.Common.{◌≡◌, ◌++◌, drop}
use Rattle.ll_engine.specs.Rules.{follow_row}
use Rattle.ll_engine.proofs.derive.push_follow_row.Given as goal

abbrev pub invariant-loop-n : goal.invariant-loop-n
invariant-loop-n l =
    l.rules ++ follow_row l.blank l.leads l.symbol l.head (drop l.n l.parts) ≡ l.initial.rules ++ follow_row l.blank l.leads l.symbol l.head l.parts
