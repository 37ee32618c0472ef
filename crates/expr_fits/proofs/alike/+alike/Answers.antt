use Rattle.std.proofs.Common.{arith}
use Rattle.expr_fits.proofs.Likeness as L
use Rattle.expr_fits.proofs.alike.+alike.Goals as goal

pub are_alike-loop-i-preserved : goal.are_alike-loop-i-preserved
are_alike-loop-i-preserved t c =
    L.alike-next c.args.ms.now c.args.ns.now c.loop-i.i c.index-ms-i.result c.index-ns-i.result (omega arith) (omega arith) c.index-ms-i.is c.index-ns-i.is c.if-not-is_alike.ensures c.loop-i.invariant

pub are_alike-returns : goal.are_alike-returns
are_alike-returns t c = L.alike-done c.args.ms.now c.args.ns.now c.loop-i.i (omega arith) (omega arith) c.loop-i.invariant
