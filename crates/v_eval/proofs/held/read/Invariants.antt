use Rattle.std.proofs.Common.{◌≡◌}
use Rattle.picks.specs.Windows.{picked, tabulated}
use Rattle.v_eval.specs.Windows.{window_of}
use Rattle.v_eval.specs.Holding.{bit_or_x}
use Rattle.v_eval.proofs.held.read.Given as goal

abbrev pub invariant-loop-j : goal.invariant-loop-j
invariant-loop-j l = l.made.items ≡ tabulated l.j (λ j. bit_or_x l.bits (picked (window_of l.window) j))
