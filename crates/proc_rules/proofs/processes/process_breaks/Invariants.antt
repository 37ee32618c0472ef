use Rattle.std.proofs.Common.{take, flat_map}
use Rattle.least_breaks.specs.Least.{IsLeast}
use Rattle.proc_rules.specs.Processes.{own_breaks}
use Rattle.proc_rules.proofs.processes.process_breaks.Given as goal

abbrev pub invariant-loop-k : goal.invariant-loop-k
invariant-loop-k l = IsLeast (flat_map (own_breaks l.design) (take l.k l.design.processes)) l.least
