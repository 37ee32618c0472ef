use Rattle.std.proofs.Common.{◌≡◌, Some, rules, subst}
use Rattle.std.proofs.lemmas.Int.{to_z-of_z}
use mir.Val.{SFits, to_z, of_z}
use mir.Syntax.{w128}
use Rattle.target_walk.specs.declared.given.Given.TheVariants as G
use Rattle.target_walk.specs.Walking.{StandsAt}
use Rattle.target_walk.proofs.Stacking.{adds-element}
use Rattle.target_walk.proofs.Owning.{plain-element}
use Rattle.target_walk.proofs.cells.add_element.Goals as goal

pub returns-clause-adds : goal.returns-clause-adds
returns-clause-adds c =
    let fits : SFits w128 c.args.k = search rules in
    let same : to_z w128 (of_z w128 c.args.k) ≡ c.args.k = to_z-of_z w128 c.args.k fits in
    adds-element c.args.image.now c.args.e.now c.args.indices.now c.args.k c.args.low c.args.n c.in_ok-spot.spot _ _ c.add_cell.result
    (subst (λ z. StandsAt c.args.e.now c.args.indices.now (Some (G.Known (Some z))) c.args.image.now.room c.in_ok-spot.spot) same c.in_ok-spot.ensures.stands) c.add_cell.ensures.adds

pub returns-clause-own : goal.returns-clause-own
returns-clause-own c = c.add_cell.ensures.own

pub returns-clause-plain : goal.returns-clause-plain
returns-clause-plain c = plain-element c.args.image.now c.args.indices.now (Some (to_z w128 (of_z w128 c.args.k))) c.in_ok-spot.spot _ _ c.add_cell.result c.in_ok-spot.ensures.steady c.add_cell.ensures.plain
