use Rattle.stmt_types.proofs.Turns.{item-turn}
use Rattle.stmt_types.proofs.cases.whole_items.Goals as goal

pub loop-item-preserved : goal.loop-item-preserved
loop-item-preserved c =
    λ k w e. item-turn k w c.loop-item.yielded c.in-Some.item c.loop-item.made c.whole_item.result c.followed-made.result c.followed-made.ensures (c.loop-item.invariant k w e) (c.whole_item.ensures k w e)
