use Rattle.std.proofs.Common.{◌≤◌, length}
use Rattle.sv_source.proofs.real.read_rest.Given as goal

abbrev pub invariant-loop : goal.invariant-loop
invariant-loop g l = length l.text ≤ l.limit
