use Rattle.ll_engine.proofs.Closing.{Applied}
use Rattle.ll_engine.proofs.rules.pass.Given as goal

abbrev pub invariant-loop-rule : goal.invariant-loop-rule
invariant-loop-rule l = Applied l.rules l.rule-index l.changed l.initial.marks l.marks
