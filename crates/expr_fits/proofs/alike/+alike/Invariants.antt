use Rattle.std.proofs.Common.{◌≡◌, map, drop}
use Rattle.sv_types.specs.Layouts.{member_layout}
use Rattle.expr_fits.proofs.alike.+alike.Given as goal

abbrev pub invariant-are_alike-loop-i : goal.invariant-are_alike-loop-i
invariant-are_alike-loop-i l = map member_layout (drop l.i l.ms) ≡ map member_layout (drop l.i l.ns) → map member_layout l.ms ≡ map member_layout l.ns
