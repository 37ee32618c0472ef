use Rattle.std.proofs.Common.{◌≡◌, ◌≤◌, drop}
use Rattle.ll_engine.specs.Marks.{rule_bound}
use Rattle.ll_engine.proofs.rules.bound_of.Given as goal

abbrev pub invariant-loop-rule : goal.invariant-loop-rule
invariant-loop-rule l = record { same : rule_bound (drop l.rule-index l.rules) l.count ≡ rule_bound l.rules 0; small : l.count ≤ 65536 }
