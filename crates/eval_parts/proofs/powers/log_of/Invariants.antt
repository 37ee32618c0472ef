use Rattle.std.proofs.Common.{◌≤◌, ◌-◌, length, drop}
use Rattle.b4_core.specs.Vectors.{num}
use Rattle.eval_parts.specs.Logs.{IsLog}
use Rattle.eval_parts.proofs.powers.log_of.Given as goal

abbrev pub invariant-loop-i : goal.invariant-loop-i
invariant-loop-i l = record { within : l.i ≤ length l.v; log : IsLog l.log (num (drop l.i l.v)) (length l.v - l.i) }

abbrev pub decreases-loop-i : goal.decreases-loop-i
decreases-loop-i l = l.i
