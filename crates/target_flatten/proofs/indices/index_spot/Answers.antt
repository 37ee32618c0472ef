use Rattle.std.proofs.Common.{◌≡◌, ℤ, rules, subst}
use Rattle.std.proofs.lemmas.Int.{to_z-of_z}
use mir.Val.{SFits, to_z, of_z}
use mir.Syntax.{w128}
use Rattle.std.specs.Prelude.{IfOk}
use Rattle.target_flatten.specs.Naming.{NamesPlaceIn, NamesRankOf}
use Rattle.target_flatten.specs.Spots.{IsPlaceIn, RanksMoved}
use Rattle.target_flatten.proofs.Naming.{index-added}
use Rattle.target_flatten.proofs.Stands.{index-spots}
use Rattle.target_flatten.proofs.indices.index_spot.Goals as goal

pub returns-clause-stands : goal.returns-clause-stands
returns-clause-stands c =
    let by_fits : SFits w128 c.args.by = search rules in
    let by_same : to_z w128 (of_z w128 c.args.by) ≡ c.args.by = to_z-of_z w128 c.args.by by_fits in
    let ranked : IfOk c.rank_of.result (RanksMoved c.args.index.now c.args.of.now c.args.by c.args.width) =
    subst (λ (d : ℤ). IfOk c.rank_of.result (RanksMoved c.args.index.now c.args.of.now d c.args.width)) by_same c.rank_of.ensures.ranked in
    index-spots c.args.spot c.args.index.now c.args.of.now c.args.by c.args.width c.bounds_of-item.result.element c.in_ok-place.place c.in_ok-place.rank c.in_ok-made.made c.requires.width c.bounds_of-item.ensures.element
    (subst (λ x. IfOk x (IsPlaceIn c.args.spot c.args.width)) c.in_ok-place.ensures.0 c.place_in-place.ensures.place)
    (subst (λ x. IfOk x (RanksMoved c.args.index.now c.args.of.now c.args.by c.args.width)) c.in_ok-place.ensures.1 ranked)
    c.in_ok-made.ensures

pub returns-clause-names : goal.returns-clause-names
returns-clause-names c =
    index-added c.args.spot c.args.index.now c.args.width c.bounds_of-item.result.element c.in_ok-place.place c.in_ok-place.rank c.in_ok-made.made
    (subst (λ x. IfOk x (NamesPlaceIn c.args.spot)) c.in_ok-place.ensures.0 c.place_in-place.ensures.names)
    (subst (λ x. IfOk x (NamesRankOf c.args.index.now)) c.in_ok-place.ensures.1 c.rank_of.ensures.names)
    c.in_ok-made.ensures
