use Rattle.std.proofs.Common.{◌≡◌, ◌++◌, length}
use Rattle.sv_macro.specs.Waiting as spec
use Rattle.sv_macro.proofs.pending.Pending.push_body.Given as goal

abbrev pub invariant-loop-item : goal.invariant-loop-item
invariant-loop-item l = (l.body ++ l.self ≡ l.initial.body ++ l.initial.self) × (l.waiting ≡ spec.waiting l.self)

abbrev pub decreases-loop-item : goal.decreases-loop-item
decreases-loop-item l = length l.body
