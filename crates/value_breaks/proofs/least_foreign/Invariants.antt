use Rattle.std.proofs.Common.{◌≡◌, drop}
use Rattle.value_breaks.specs.Signals as spec
use Rattle.value_breaks.proofs.least_foreign.Given as goal

abbrev pub invariant-loop-w : goal.invariant-loop-w
invariant-loop-w l =
    spec.least_by (spec.is_foreign l.signals l.kind) l.least (drop l.w-index l.writes) ≡ spec.least_by (spec.is_foreign l.signals l.kind) l.fn.so_far l.writes
