use Rattle.std.proofs.Common.{◌≡◌, drop, None}
use Rattle.value_breaks.specs.Signals as spec
use Rattle.value_breaks.proofs.least_of_values.Given as goal

abbrev pub invariant-loop-w : goal.invariant-loop-w
invariant-loop-w l = spec.least_by (spec.is_of_value l.signals) l.least (drop l.w-index l.writes) ≡ spec.least_by (spec.is_of_value l.signals) None l.writes
