use Rattle.std.proofs.Common.{take, flat_map}
use Rattle.design_breaks.specs.Breaks as B
use Rattle.least_breaks.specs.Least.{IsLeast}
use Rattle.proc_rules.proofs.functions.function_breaks.Given as goal

abbrev pub invariant-loop-k : goal.invariant-loop-k
invariant-loop-k l = IsLeast (flat_map (B.function_breaks l.design) (take l.k (B.numbered l.design 0 l.design.functions))) l.least
