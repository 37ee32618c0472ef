use Rattle.sv_types.specs.declared.statement.Function.{Function}
use Rattle.proc_rules.specs.Functions.{IsBodyOf}
use Rattle.loop_rules.proofs.Collecting.{SoFar}
use Rattle.loop_rules.proofs.design_lists.function_flows.Given as goal

abbrev pub invariant-loop-k : goal.invariant-loop-k
invariant-loop-k l = SoFar (λ (p : Function) x. IsBodyOf l.design p x) l.design.functions l.k l.all
