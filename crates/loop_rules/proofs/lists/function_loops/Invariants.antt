use Rattle.sv_types.specs.declared.statement.Function.{Function}
use Rattle.proc_rules.specs.Processes.{IsLoops}
use Rattle.loop_rules.proofs.Collecting.{SoFar}
use Rattle.loop_rules.proofs.lists.function_loops.Given as goal

abbrev pub invariant-loop-k : goal.invariant-loop-k
invariant-loop-k l = SoFar (λ (p : Function) x. IsLoops l.design p.body x) l.design.functions l.k l.all
