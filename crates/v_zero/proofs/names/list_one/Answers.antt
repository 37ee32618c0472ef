use Rattle.std.proofs.Common.{◌++◌, ◌∷◌, [], sym, subst, arith}
use Rattle.v_instances.proofs.Counting.{where-ok}
use Rattle.std.specs.Prelude.{slice_set}
use Rattle.v_zero.specs.Zero.{Listed}
use Rattle.v_zero.proofs.Listing.{listed-new}
use Rattle.v_zero.proofs.names.list_one.Goals as goal

pub returns-clause-listed : goal.returns-clause-listed
returns-clause-listed c =
    let marks = c.args.marks.now in
    let n = c.args.named in
    where-ok c.push.result
    (λ e ns old. subst (Listed c.args.mark (ns ++ n ∷ []) (slice_set marks n c.args.mark)) (sym e) (listed-new c.args.mark n ns marks c.args.to.now (omega (arith, c.if-n-marks.false)) c.if-marks-n.false old)) c.push.ensures.ok
