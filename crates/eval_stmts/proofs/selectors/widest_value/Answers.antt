use Rattle.std.proofs.Common.{◌+◌, map, drop, arith, ap, subst}
use Rattle.sv_types.specs.Expressions.{meaning}
use Rattle.sv_types.specs.Runs.{widest_of}
use Rattle.eval_exprs.proofs.Turns.{at-front}
use Rattle.eval_stmts.specs.Targets.{NarrowItems, values_of}
use Rattle.eval_stmts.proofs.Matching.{widest-append}
use Rattle.eval_stmts.proofs.selectors.widest_value.Goals as goal

pub loop-item-preserved : goal.loop-item-preserved
loop-item-preserved c =
    let here = at-front c.args.items.now c.loop-item.item-index c.item-item.result (omega arith) c.item-item.is in
    let rest = drop (c.loop-item.item-index + 1) c.args.items.now in
    let split = widest-append (map meaning c.item-item.result.values) (values_of rest) in
    let wide = ap (λ is. widest_of (values_of is)) here in
    let own = c.widest-width.ensures in
    let slice = ap (λ es. widest_of (map meaning es)) c.as_slice.ensures in
    record { narrow = (subst NarrowItems here c.loop-item.invariant.narrow).1; is = omega (arith, c.loop-item.invariant.is, split, wide, own, slice) }
