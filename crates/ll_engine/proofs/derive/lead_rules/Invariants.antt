use Rattle.std.proofs.Common.{◌≡◌, ◌++◌, drop}
use Rattle.ll_engine.specs.Rules.{lead_rules}
use Rattle.ll_engine.proofs.derive.lead_rules.Given as goal

abbrev pub invariant-loop-row : goal.invariant-loop-row
invariant-loop-row l = l.rules ++ lead_rules l.blank l.symbol (drop l.row-index l.rows) ≡ lead_rules l.blank l.symbol l.rows
