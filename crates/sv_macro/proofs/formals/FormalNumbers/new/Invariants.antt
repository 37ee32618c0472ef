use Rattle.std.proofs.Common.{◌≡◌, ◌≤◌, length}
use Rattle.sv_macro.proofs.FormalLists.{numbers_from}
use Rattle.sv_macro.specs.Tables.{numbers_in}
use Rattle.sv_macro.proofs.formals.FormalNumbers.new.Given as goal

abbrev pub invariant-loop-at : goal.invariant-loop-at
invariant-loop-at l = (numbers_in l.numbers ≡ numbers_from l.at l.formals) × (l.at ≤ length l.formals)

abbrev pub decreases-loop-at : goal.decreases-loop-at
decreases-loop-at l = l.at
