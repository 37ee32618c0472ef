use Rattle.sv_types.specs.declared.design.Process.{Process}
use Rattle.proc_rules.specs.Processes.{IsLoops}
use Rattle.loop_rules.proofs.Collecting.{SoFar}
use Rattle.loop_rules.proofs.lists.process_loops.Given as goal

abbrev pub invariant-loop-k : goal.invariant-loop-k
invariant-loop-k l = SoFar (λ (p : Process) x. IsLoops l.design p.body x) l.design.processes l.k l.all
