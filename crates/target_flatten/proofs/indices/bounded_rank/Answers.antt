use Rattle.std.proofs.Common.{◌≡◌, rules, subst, ℤ}
use Rattle.std.proofs.lemmas.Int.{to_z-of_z}
use mir.Val.{SFits, to_z, of_z}
use mir.Syntax.{w128}
use Rattle.v_meaning.specs.Values.{meaning}
use Rattle.target_flatten.specs.Spots.{RanksNumber}
use Rattle.target_flatten.proofs.Naming.{index-ranked}
use Rattle.target_flatten.proofs.Ranking.{index-between}
use Rattle.target_flatten.proofs.indices.bounded_rank.Goals as goal

pub returns-clause-ranked : goal.returns-clause-ranked
returns-clause-ranked c =
    let left_fits : SFits w128 c.args.left = search rules in
    let right_fits : SFits w128 c.args.right = search rules in
    let left : to_z w128 (of_z w128 c.args.left) ≡ c.args.left = to_z-of_z w128 c.args.left left_fits in
    let right : to_z w128 (of_z w128 c.args.right) ≡ c.args.right = to_z-of_z w128 c.args.right right_fits in
    let ranks : RanksNumber (meaning c.in_ok-number.number) c.args.width c.args.left c.args.right c.in_ok-made.made =
    subst (λ (x : ℤ). RanksNumber (meaning c.in_ok-number.number) c.args.width x c.args.right c.in_ok-made.made) left
    (subst (λ (x : ℤ). RanksNumber (meaning c.in_ok-number.number) c.args.width (to_z w128 (of_z w128 c.args.left)) x c.in_ok-made.made) right c.in_ok-made.ensures.ranked) in
    index-between c.args.index.now (meaning c.in_ok-number.number) c.args.width c.args.left c.args.right c.in_ok-made.made c.in_ok-number.ensures.number ranks

pub returns-clause-names : goal.returns-clause-names
returns-clause-names c = index-ranked c.args.index.now (meaning c.in_ok-number.number) c.in_ok-made.made c.in_ok-number.ensures.names c.in_ok-made.ensures.names
