use Rattle.std.proofs.Common.{◌≡◌, ◌++◌, map, length}
use Rattle.sv_macro.specs.declared.coming.Coming.TheVariants.{Raw}
use Rattle.sv_macro.specs.Waiting as spec
use Rattle.sv_macro.proofs.pending.Pending.push_file.Given as goal

abbrev pub invariant-loop-token : goal.invariant-loop-token
invariant-loop-token l = (map Raw l.tokens ++ l.self ≡ map Raw l.initial.tokens ++ l.initial.self) × (l.waiting ≡ spec.waiting l.self)

abbrev pub decreases-loop-token : goal.decreases-loop-token
decreases-loop-token l = length l.tokens
