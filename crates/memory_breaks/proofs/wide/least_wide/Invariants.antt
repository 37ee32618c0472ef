use Rattle.std.proofs.Common.{take, flat_map}
use Rattle.design_breaks.specs.Breaks as B
use Rattle.least_breaks.specs.Least.{IsLeast}
use Rattle.memory_breaks.proofs.wide.least_wide.Given as goal

abbrev pub invariant-loop-n : goal.invariant-loop-n
invariant-loop-n l = IsLeast (flat_map (B.too_wide l.design) (take l.n (B.numbered l.design 0 l.design.signals))) l.least
