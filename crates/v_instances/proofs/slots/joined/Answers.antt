use Rattle.std.proofs.Common.{◌-◌, sym, ◌∙◌, ap, ◌++◌, arith, take}
use Rattle.v_meaning.specs.Modules.{numbers}
use Rattle.v_instances.proofs.Counting.{numbers_left}
use Rattle.v_instances.proofs.slots.joined.Goals as goal

pub loop-left-preserved : goal.loop-left-preserved
loop-left-preserved c =
    let e = c.in_ok-extend_from_slice.ensures.items in
    let v = c.loop-left.invariant in
    let k = c.loop-left.left in
    let vs = c.args.pieces.now in (
      ap (λ l. l ++ numbers (take (k - 1) vs)) e
          ∙ (sym (numbers_left vs k (k - 1) c.index-pieces-left.result c.as_slice.result.now c.loop-left.bits.items (omega (arith, c.loop-left-test.true)) v.1 (c.as_slice.ensures ∙ c.index-pieces-left.is)) ∙ v.0),
      omega (arith, v.1),
    )
