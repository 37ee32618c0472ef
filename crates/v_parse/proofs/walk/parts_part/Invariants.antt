use Rattle.std.proofs.Common.{◌≡◌}
use Rattle.ll_engine.specs.declared.tree.Tree.TheVariants.{Node}
use Rattle.v_parse.specs.Walking.{kept_part, walked, steps_left}
use Rattle.v_parse.proofs.walk.parts_part.Given as goal

abbrev pub invariant-loop-walk : goal.invariant-loop-walk
invariant-loop-walk l = walked l.tokens l.walk ≡ kept_part l.tokens (Node l.fn.row l.fn.kids)

abbrev pub decreases-loop-walk : goal.decreases-loop-walk
decreases-loop-walk l = steps_left l.walk
