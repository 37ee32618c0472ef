use Rattle.std.proofs.Common.{ℤ, ◌≡◌, ◌∙◌, Some, true, false, ap, arith, rules}
use Rattle.std.proofs.lemmas.Int.{ints, to_z-of_z}
use mir.Val.{SFits, to_z, of_z}
use mir.Syntax.{w128}
use Rattle.v_meaning.specs.Values as T
use Rattle.v_meaning.specs.Values.{meaning}
use Rattle.lowering_laws.specs.Terms as terms
use Rattle.path_flatten.specs.Distances.{distance_term}
use Rattle.target_flatten.proofs.Naming.{between-ranked}
use Rattle.target_flatten.proofs.Ranking.{le-is, le-not, falling-number, rising-number}
use Rattle.target_flatten.proofs.indices.rank_between.Goals as goal

pub returns-in_ok-made-clause-ranked : goal.returns-in_ok-made-clause-ranked
returns-in_ok-made-clause-ranked c =
    let m = T.signing true (meaning c.args.number.now) in
    let left_fits : SFits w128 c.args.left = search rules in
    let right_fits : SFits w128 c.args.right = search rules in
    let left : to_z w128 (of_z w128 c.args.left) ≡ c.args.left = to_z-of_z w128 c.args.left left_fits in
    let right : to_z w128 (of_z w128 c.args.right) ≡ c.args.right = to_z-of_z w128 c.args.right right_fits in
    falling-number (meaning c.args.number.now) c.args.width c.args.left c.args.right c.in_ok-made.made (le-is c.args.right c.args.left (omega (arith, ints)))
    (c.in_ok-made.ensures.guard ∙ (λ i. Some (terms.between (T.signing true (meaning c.args.number.now)) c.args.width (right i) (left i))))
    (c.in_ok-made.ensures.rank ∙ ap (distance_term true (T.signing true (meaning c.args.number.now)) c.args.width) right)

pub returns-in_ok-made-2-clause-ranked : goal.returns-in_ok-made-2-clause-ranked
returns-in_ok-made-2-clause-ranked c =
    let left_fits : SFits w128 c.args.left = search rules in
    let right_fits : SFits w128 c.args.right = search rules in
    let left : to_z w128 (of_z w128 c.args.left) ≡ c.args.left = to_z-of_z w128 c.args.left left_fits in
    let right : to_z w128 (of_z w128 c.args.right) ≡ c.args.right = to_z-of_z w128 c.args.right right_fits in
    rising-number (meaning c.args.number.now) c.args.width c.args.left c.args.right c.in_ok-made-2.made (le-not c.args.right c.args.left (omega (arith, ints)))
    (c.in_ok-made-2.ensures.guard ∙ (λ i. Some (terms.between (T.signing true (meaning c.args.number.now)) c.args.width (left i) (right i))))
    (c.in_ok-made-2.ensures.rank ∙ ap (distance_term false (T.signing true (meaning c.args.number.now)) c.args.width) right)

pub returns-in_ok-made-clause-names : goal.returns-in_ok-made-clause-names
returns-in_ok-made-clause-names c =
    let left : ℤ = to_z w128 (of_z w128 c.args.left) in
    let right : ℤ = to_z w128 (of_z w128 c.args.right) in
    between-ranked (meaning c.args.number.now) c.args.width (to_z w128 (of_z w128 c.args.right)) (to_z w128 (of_z w128 c.args.left)) (to_z w128 (of_z w128 c.args.right)) true c.in_ok-made.made
    c.in_ok-made.ensures.guard c.in_ok-made.ensures.rank

pub returns-in_ok-made-2-clause-names : goal.returns-in_ok-made-2-clause-names
returns-in_ok-made-2-clause-names c =
    between-ranked (meaning c.args.number.now) c.args.width (to_z w128 (of_z w128 c.args.left)) (to_z w128 (of_z w128 c.args.right)) (to_z w128 (of_z w128 c.args.right)) false c.in_ok-made-2.made
    c.in_ok-made-2.ensures.guard c.in_ok-made-2.ensures.rank
