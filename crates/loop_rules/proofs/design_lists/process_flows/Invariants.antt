use Rattle.sv_types.specs.declared.design.Process.{Process}
use Rattle.flow_breaks.specs.Pieces.{IsFoundOf}
use Rattle.loop_rules.proofs.Collecting.{SoFar}
use Rattle.loop_rules.proofs.design_lists.process_flows.Given as goal

abbrev pub invariant-loop-k : goal.invariant-loop-k
invariant-loop-k l = SoFar (λ (p : Process) x. IsFoundOf l.design p x) l.design.processes l.k l.all
