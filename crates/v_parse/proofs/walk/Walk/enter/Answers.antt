use Rattle.std.proofs.Common.{◌∙◌}
use Rattle.v_parse.proofs.Walking.{enters-leaf, enters-node}
use Rattle.v_parse.proofs.walk.Walk.enter.Goals as goal

pub returns-in_ok-push-in-Leaf-clause-means : goal.returns-in_ok-push-in-Leaf-clause-means
returns-in_ok-push-in-Leaf-clause-means c =
    (enters-leaf c.args.tokens.now c.args.self.now c.args.tree c.in-Leaf.place c.push.new.self c.in_ok-part-in-Leaf.part c.in-Leaf.is c.in_ok-part-in-Leaf.ensures c.in_ok-push-in-Leaf.ensures.ok).means

pub returns-in_ok-push-in-Leaf-clause-smaller : goal.returns-in_ok-push-in-Leaf-clause-smaller
returns-in_ok-push-in-Leaf-clause-smaller c =
    (enters-leaf c.args.tokens.now c.args.self.now c.args.tree c.in-Leaf.place c.push.new.self c.in_ok-part-in-Leaf.part c.in-Leaf.is c.in_ok-part-in-Leaf.ensures c.in_ok-push-in-Leaf.ensures.ok).smaller

pub returns-in_ok-push-in-Node-clause-means : goal.returns-in_ok-push-in-Node-clause-means
returns-in_ok-push-in-Node-clause-means c =
    (enters-node c.args.tokens.now c.args.self.now c.args.tree c.in-Node.row c.in-Node.kids c.replace-outer.result c.replace-outer.new.dest c.push-in-Node.new.self
    c.in-Node.is c.replace-outer.ensures.value (c.replace-outer.ensures.after ∙ c.started.ensures) c.in_ok-push-in-Node.ensures.ok).means

pub returns-in_ok-push-in-Node-clause-smaller : goal.returns-in_ok-push-in-Node-clause-smaller
returns-in_ok-push-in-Node-clause-smaller c =
    (enters-node c.args.tokens.now c.args.self.now c.args.tree c.in-Node.row c.in-Node.kids c.replace-outer.result c.replace-outer.new.dest c.push-in-Node.new.self
    c.in-Node.is c.replace-outer.ensures.value (c.replace-outer.ensures.after ∙ c.started.ensures) c.in_ok-push-in-Node.ensures.ok).smaller
