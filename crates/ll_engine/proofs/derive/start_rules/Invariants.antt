use Rattle.std.proofs.Common.{◌≡◌, ◌++◌, drop}
use Rattle.ll_engine.specs.Rules.{start_rules}
use Rattle.ll_engine.proofs.derive.start_rules.Given as goal

abbrev pub invariant-loop-row : goal.invariant-loop-row
invariant-loop-row l = l.rules ++ start_rules l.blank l.target (drop l.row-index l.rows) ≡ start_rules l.blank l.target l.rows
