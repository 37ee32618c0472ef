use Rattle.std.proofs.Common.{sym, ap, ◌∙◌}
use Rattle.v_parse.specs.Walking.{kept_part}
use Rattle.v_parse.proofs.Walking.{kept-leaf}
use Rattle.v_parse.proofs.walk.tree_part.Goals as goal

pub returns-in_ok-leaf_part-in-Leaf : goal.returns-in_ok-leaf_part-in-Leaf
returns-in_ok-leaf_part-in-Leaf c =
    c.in_ok-leaf_part-in-Leaf.ensures ∙ sym (kept-leaf c.args.tokens.now c.in-Leaf.place) ∙ sym (ap (kept_part c.args.tokens.now) c.in-Leaf.is)
