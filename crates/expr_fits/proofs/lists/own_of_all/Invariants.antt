use Rattle.std.proofs.Common.{◌≡◌, ◌≤◌, ◌+◌, min, map, drop}
use Rattle.sv_types.specs.Meanings.{total}
use Rattle.expr_fits.specs.Results.{own_of}
use Rattle.expr_fits.proofs.lists.own_of_all.Given as goal

abbrev pub invariant-loop-e : goal.invariant-loop-e
invariant-loop-e l = record { small : l.sum ≤ 4194305; value : min (l.sum + total (map own_of (drop l.e-index l.es))) 4194305 ≡ min (total (map own_of l.es)) 4194305 }
