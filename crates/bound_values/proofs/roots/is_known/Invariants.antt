use Rattle.std.proofs.Common.{◌≡◌, drop}
use Rattle.expr_flows.specs.Known.{sure_of}
use Rattle.bound_values.proofs.roots.is_known.Given as goal

abbrev pub invariant-loop-v : goal.invariant-loop-v
invariant-loop-v l =
    sure_of (drop l.v-index l.variables) (record { signal = l.number; bit = 0 }) ≡ sure_of l.variables (record { signal = l.number; bit = 0 })
