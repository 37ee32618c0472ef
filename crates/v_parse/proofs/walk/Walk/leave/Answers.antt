use Rattle.v_parse.proofs.Walking.{leaves}
use Rattle.v_parse.proofs.walk.Walk.leave.Goals as goal

pub returns : goal.returns
returns c =
    let kept = leaves c.args.tokens.now c.args.self.now c.pop-outer.new.self c.in-Some.outer c.replace-inner.new.dest c.replace-inner.result c.push.new.self c.in_ok-part-2.part
    c.requires c.in-Some.ensures c.replace-inner.ensures.after c.replace-inner.ensures.value c.in_ok-part-2.ensures c.in_ok-push.ensures.ok in
    (kept.means, kept.smaller)
