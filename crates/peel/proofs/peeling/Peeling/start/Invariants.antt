use Rattle.std.proofs.Common.{◌≡◌, replicate}
use Rattle.peel.specs.declared.peeling.Mark.TheVariants.{Fresh}
use Rattle.peel.proofs.peeling.Peeling.start.Given as goal

abbrev pub invariant-loop-p : goal.invariant-loop-p
invariant-loop-p l = record { marks : l.marks ≡ replicate l._p Fresh; seen : l.seen ≡ replicate l._p 0 }
