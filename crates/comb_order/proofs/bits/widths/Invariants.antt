use Rattle.std.proofs.Common.{◌≡◌, ◌++◌, drop}
use Rattle.comb_order.specs.Bits.{widths_of}
use Rattle.comb_order.proofs.bits.widths.Given as goal

abbrev pub invariant-loop-s : goal.invariant-loop-s
invariant-loop-s l = l.all ++ widths_of (drop l.s-index l.signals) ≡ widths_of l.signals
