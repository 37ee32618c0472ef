use Rattle.std.proofs.Common.{◌≡◌, ◌++◌, drop}
use Rattle.lower_design.specs.Lowered.{declarations, is_driven}
use Rattle.lower_design.proofs.declare.declare.Given as goal

abbrev pub invariant-loop-n : goal.invariant-loop-n
invariant-loop-n l =
    l.items ++ declarations (is_driven l.processes) l.n (drop l.n l.signals) ≡ declarations (is_driven l.processes) 0 l.signals
