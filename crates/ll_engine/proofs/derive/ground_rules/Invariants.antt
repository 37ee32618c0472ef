use Rattle.std.proofs.Common.{◌≡◌, ◌++◌, drop}
use Rattle.ll_engine.specs.Rules.{ground_rules}
use Rattle.ll_engine.proofs.derive.ground_rules.Given as goal

abbrev pub invariant-loop-row : goal.invariant-loop-row
invariant-loop-row l = l.rules ++ ground_rules l.symbols (drop l.row-index l.rows) ≡ ground_rules l.symbols l.rows
