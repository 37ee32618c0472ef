use Rattle.std.proofs.Common.{◌≡◌, vec_len}
use Rattle.round_runner.proofs.grouping.places_of.Given as goal

abbrev pub invariant-loop-n : goal.invariant-loop-n
invariant-loop-n g l = vec_len l.parents ≡ l.n

abbrev pub invariant-loop-i : goal.invariant-loop-i
invariant-loop-i g l = vec_len l.parents ≡ l.size
