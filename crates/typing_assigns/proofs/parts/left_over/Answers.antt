use Rattle.typing_assigns.proofs.Joining.{left-turn, narrow-turn}
use Rattle.typing_assigns.proofs.parts.left_over.Goals as goal

pub loop-part-preserved : goal.loop-part-preserved
loop-part-preserved c =
    let es = c.args.parts.now in
    let i = c.loop-part.part-index in
    let e = c.part-item.result in
    record {
      left =
          left-turn es i e c.loop-part.left c.width.result c.next_left-left.result c.args.slice c.loop-part-test.true c.part-item.is c.width.ensures.bits c.next_left-left.ensures.left
          c.loop-part.invariant.left;
      small = c.next_left-left.ensures.small;
      narrow = narrow-turn es i e c.loop-part-test.true c.loop-part.invariant.narrow;
    }
