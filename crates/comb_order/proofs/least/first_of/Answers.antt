use Rattle.std.proofs.Common.{◌+◌, sym, ◌∙◌, subst, arith}
use Rattle.comb_order.proofs.First.{IsFirstUpTo, first-same, first-new, first-all}
use Rattle.comb_order.proofs.least.first_of.Goals as goal
use Rattle.comb_order.proofs.least.first_of.Goals.{then-comes_before, else-comes_before}

pub loop-n-preserved : goal.loop-n-preserved
loop-n-preserved c =
    let ps = c.args.processes.now in
    let ns = c.args.numbers.now in
    let k = c.loop-n.n-index in
    elim c.if-comes_before.branch [
      | then-comes_before w ↦ record {
        within = let low = c.requires.within k c.loop-n-test.true in omega (arith, low, w.first-is);
        first = subst (IsFirstUpTo ps ns (k + 1)) (sym w.first-is) (first-new ps ns k c.loop-n.first c.loop-n-test.true (sym c.comes_before.ensures ∙ w.if-comes_before.true) c.loop-n.invariant.first);
      }
      | else-comes_before w ↦ record {
        within = let low = c.loop-n.invariant.within in omega (arith, low, w.first-is);
        first = subst (IsFirstUpTo ps ns (k + 1)) (sym w.first-is) (first-same ps ns k c.loop-n.first (sym c.comes_before.ensures ∙ w.if-comes_before.false) c.loop-n.invariant.first);
      }
    ]

pub returns : goal.returns
returns c = first-all c.args.processes.now c.args.numbers.now c.loop-n.n-index c.loop-n.first c.loop-n-test.false c.loop-n.invariant.first
