use Rattle.std.proofs.Common.{◌≡◌, ◌++◌, drop}
use Rattle.ll_engine.specs.Rules.{follow_rules}
use Rattle.ll_engine.proofs.derive.follow_rules.Given as goal

abbrev pub invariant-loop-row : goal.invariant-loop-row
invariant-loop-row l =
    l.rules ++ follow_rules l.blank l.leads l.symbol (drop l.row-index l.rows) ≡ follow_rules l.blank l.leads l.symbol l.rows
