use Rattle.std.proofs.Common.{◌≡◌}
use Rattle.picks.specs.Windows.{picked, tabulated}
use Rattle.eval_parts.specs.Surroundings.{now_of}
use Rattle.eval_parts.specs.Places.{window_of, bit_of, bit_or_x}
use Rattle.eval_parts.proofs.reads.read.Given as goal

abbrev pub invariant-loop-j : goal.invariant-loop-j
invariant-loop-j l = l.bits.items ≡ tabulated l.j (λ j. bit_or_x (bit_of l.found.root (now_of l.signals l.locals)) (picked (window_of l.found.window) j))
