use Rattle.v_parse.proofs.Walking.{steps-on}
use Rattle.v_parse.proofs.walk.Walk.step.Goals as goal

pub returns-in_ok-enter-in-Some : goal.returns-in_ok-enter-in-Some
returns-in_ok-enter-in-Some c =
    let kept = steps-on c.args.tokens.now c.args.self.now c.enter.new.self c.pop.new.self c.in-Some.tree c.in-Some.ensures c.in_ok-enter-in-Some.ensures.means c.in_ok-enter-in-Some.ensures.smaller in
    (kept.means, kept.smaller)
