use Rattle.std.proofs.Common.{◌≡◌, length}
use Rattle.sv_macro.specs.Surveys.{looked}
use Rattle.sv_macro.proofs.lists.look_through.Given as goal

abbrev pub invariant-loop-item : goal.invariant-loop-item
invariant-loop-item l = looked l.open l.list l.coming ≡ looked l.initial.open l.initial.list l.initial.coming

abbrev pub decreases-loop-item : goal.decreases-loop-item
decreases-loop-item l = length l.coming
