use Rattle.std.proofs.Common.{◌≡◌, Some, IfOk, rules, sym, subst}
use Rattle.std.proofs.lemmas.Int.{to_z-of_z}
use mir.Val.{SFits, to_z, of_z}
use mir.Syntax.{w128}
use Rattle.target_flatten.specs.Spots.{SpotsElement, SpotsIndex}
use Rattle.target_walk.specs.declared.given.Element.{Element}
use Rattle.target_walk.specs.Giving.{given_of}
use Rattle.target_walk.specs.Owning.{SteadyElement}
use Rattle.target_walk.specs.Walking.{Chooses}
use Rattle.target_walk.proofs.Owning.{moved-element}
use Rattle.target_walk.proofs.Ways.{known-way, lowered-way}
use Rattle.target_walk.proofs.standing.element_in.Goals as goal

pub returns-in-Known-clause-chooses : goal.returns-in-Known-clause-chooses
returns-in-Known-clause-chooses c =
    let fits : SFits w128 c.in-Known.k = search rules in
    let same : to_z w128 (of_z w128 c.in-Known.k) ≡ c.in-Known.k = to_z-of_z w128 c.in-Known.k fits in
    subst (λ (g : Element). Chooses c.args.spot c.args.of.now (Some (given_of g)) c.args.room c.element_spot.result) (sym c.in-Known.is)
    (known-way c.args.spot c.element_spot.result c.args.of.now c.in-Known.k c.args.room (subst (λ z. SpotsElement c.args.spot c.args.of.now (Some z) c.element_spot.result) same c.element_spot.ensures.stands)
    c.element_spot.ensures.names)

pub returns-in-Lowered-clause-chooses : goal.returns-in-Lowered-clause-chooses
returns-in-Lowered-clause-chooses c =
    let fits : SFits w128 c.in-Lowered.by = search rules in
    let same : to_z w128 (of_z w128 c.in-Lowered.by) ≡ c.in-Lowered.by = to_z-of_z w128 c.in-Lowered.by fits in
    subst (λ (g : Element). IfOk c.index_spot.result (Chooses c.args.spot c.args.of.now (Some (given_of g)) c.args.room)) (sym c.in-Lowered.is)
    (lowered-way c.args.spot c.args.of.now c.in-Lowered.index.now c.in-Lowered.by c.args.room c.index_spot.result
    (subst (λ z. IfOk c.index_spot.result (SpotsIndex c.args.spot c.in-Lowered.index.now c.args.of.now z c.args.room)) same c.index_spot.ensures.stands) c.index_spot.ensures.names)

pub returns-in-Known-clause-steady : goal.returns-in-Known-clause-steady
returns-in-Known-clause-steady c = λ h. c.element_spot.ensures.steady

pub returns-in-Lowered-clause-steady : goal.returns-in-Lowered-clause-steady
returns-in-Lowered-clause-steady c =
    subst (λ (g : Element). IfOk c.index_spot.result (SteadyElement c.args.spot (given_of g))) (sym c.in-Lowered.is) (moved-element c.args.spot c.in-Lowered.index.now c.in-Lowered.by c.index_spot.result)
