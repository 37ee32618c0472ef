use Rattle.std.proofs.Common.{◌≡◌, ◌∙◌, ℤ, ◌-ℤ◌, arith, rules, ap}
use Rattle.std.proofs.lemmas.Int.{ints, to_z-of_z}
use mir.Val.{SFits, to_z, of_z}
use mir.Syntax.{w128}
use Rattle.sv_types.specs.Layouts.{layout}
use Rattle.target_flatten.proofs.Ranking.{short-moved, between-moved}
use Rattle.target_flatten.proofs.indices.rank_of.Goals as goal

pub returns-in-Some-clause-ranked : goal.returns-in-Some-clause-ranked
returns-in-Some-clause-ranked c =
    short-moved c.args.index.now c.args.of.now c.args.by c.args.width c.in-Some.last c.in_ok-made.made c.bounds_of-bounds.result.left c.bounds_of-bounds.result.right (omega (arith, ints))
    c.bounds_of-bounds.ensures.left c.bounds_of-bounds.ensures.right c.in-Some.ensures c.in_ok-made.ensures.ranked

pub returns-clause-ranked : goal.returns-clause-ranked
returns-clause-ranked c =
    let left_at : c.from.result ≡ (layout c.args.of.now).left = search rules in
    let right_at : c.from-2.result ≡ (layout c.args.of.now).right = search rules in
    let from_fits : SFits w128 c.from.result = search rules in
    let from_2_fits : SFits w128 c.from-2.result = search rules in
    let by_fits : SFits w128 c.args.by = search rules in
    let left_fits : SFits w128 (c.from.result -ℤ c.args.by) = search rules in
    let right_fits : SFits w128 (c.from-2.result -ℤ c.args.by) = search rules in
    let by_same : to_z w128 (of_z w128 c.args.by) ≡ c.args.by = to_z-of_z w128 c.args.by by_fits in
    let from_same : to_z w128 (of_z w128 c.from.result) ≡ c.from.result = to_z-of_z w128 c.from.result from_fits in
    let from_2_same : to_z w128 (of_z w128 c.from-2.result) ≡ c.from-2.result = to_z-of_z w128 c.from-2.result from_2_fits in
    let left : to_z w128 (of_z w128 (to_z w128 (of_z w128 c.from.result) -ℤ to_z w128 (of_z w128 c.args.by))) ≡ (layout c.args.of.now).left -ℤ c.args.by =
    (λ i. to_z w128 (of_z w128 (from_same i -ℤ by_same i))) ∙ to_z-of_z w128 (c.from.result -ℤ c.args.by) left_fits ∙ ap (λ (k : ℤ). k -ℤ c.args.by) left_at in
    let right : to_z w128 (of_z w128 (to_z w128 (of_z w128 c.from-2.result) -ℤ to_z w128 (of_z w128 c.args.by))) ≡ (layout c.args.of.now).right -ℤ c.args.by =
    (λ i. to_z w128 (of_z w128 (from_2_same i -ℤ by_same i))) ∙ to_z-of_z w128 (c.from-2.result -ℤ c.args.by) right_fits ∙ ap (λ (k : ℤ). k -ℤ c.args.by) right_at in
    between-moved c.args.index.now c.args.of.now c.args.by c.args.width c.in_ok-made-2.made (to_z w128 (of_z w128 (to_z w128 (of_z w128 c.from.result) -ℤ to_z w128 (of_z w128 c.args.by))))
    (to_z w128 (of_z w128 (to_z w128 (of_z w128 c.from-2.result) -ℤ to_z w128 (of_z w128 c.args.by)))) left right c.in_ok-made-2.ensures.ranked

pub returns-in-Some-clause-names : goal.returns-in-Some-clause-names
returns-in-Some-clause-names c = c.in_ok-made.ensures.names

pub returns-clause-names : goal.returns-clause-names
returns-clause-names c = c.in_ok-made-2.ensures.names
