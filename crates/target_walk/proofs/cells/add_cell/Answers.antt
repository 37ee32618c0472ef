use Rattle.std.proofs.Common.{◌≡◌, ◌++◌, Some, rules, subst}
use Rattle.target_flatten.specs.Owning.{OwnAim, PlainAim, writes_made}
use Rattle.target_walk.proofs.Owning.{keeps-own, keeps-plain}
use Rattle.target_walk.proofs.cells.add_cell.Goals as goal

pub returns-in_ok-push-clause-own : goal.returns-in_ok-push-clause-own
returns-in_ok-push-clause-own c =
    let x = c.in-Some.aim in
    let is : c.push.new.self ≡ c.args.writes.now ++ writes_made (Some c.in-Some.aim) c.args.low c.args.n = search rules in
    keeps-own c.args.image.now c.args.writes.now c.push.new.self c.args.low c.args.n x is (subst (OwnAim c.args.image.now.name c.args.image.now.bits) c.in-Some.is c.in_ok-aim.ensures.own)

pub returns-in_ok-push-clause-plain : goal.returns-in_ok-push-clause-plain
returns-in_ok-push-clause-plain c =
    let x = c.in-Some.aim in
    let is : c.push.new.self ≡ c.args.writes.now ++ writes_made (Some c.in-Some.aim) c.args.low c.args.n = search rules in
    keeps-plain c.args.image.now c.args.spot c.args.writes.now c.push.new.self c.args.low c.args.n x is (subst (PlainAim c.args.image.now.name c.args.spot) c.in-Some.is c.in_ok-aim.ensures.plain)
