use Rattle.std.proofs.Common.{◌≡◌, map, take}
use Rattle.row_machine.specs.Machine.{at_zero}
use Rattle.round_runner.proofs.rows.flags_at_zero.Given as goal

abbrev pub invariant-loop-i : goal.invariant-loop-i
invariant-loop-i g l = l.flags.items ≡ map at_zero (take l.i (g.P.Processes.machine l.machine).combs)
