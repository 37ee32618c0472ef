use Rattle.std.proofs.Common.{◌≡◌, ◌+◌, drop}
use Rattle.v_run.specs.Writes.{place}
use Rattle.v_run.proofs.slots.place_of.Given as goal

abbrev pub invariant-loop-i : goal.invariant-loop-i
invariant-loop-i l = l.i + place (drop l.i l.over) l.n ≡ place l.over l.n
