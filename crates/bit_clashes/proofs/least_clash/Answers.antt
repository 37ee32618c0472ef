use Rattle.std.proofs.Common.{arith, sym, ◌∙◌}
use Rattle.bit_clashes.proofs.Sweeping.{sweep-no-clash, clash-later}
use Rattle.bit_clashes.proofs.least_clash.Goals as goal

pub loop-low-preserved : goal.loop-low-preserved
loop-low-preserved c = record {
  order = omega arith;
  clashes = c.loop-low.invariant.clashes;
  least = λ limit below clash. sweep-no-clash _ c.args.pieces.now (sym c.clashes_up_to-in-loop-low.ensures ∙ c.if-clashes_up_to.false) (clash-later c.args.pieces.now limit _ (omega (arith, below)) clash);
}
