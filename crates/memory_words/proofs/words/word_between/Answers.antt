use Rattle.std.proofs.Common.{rules, ◌≡◌, ◌∙◌, ap, arith, subst, ℤ, Some, true}
use Rattle.std.proofs.lemmas.Int.{ints, to_z-of_z}
use mir.Val.{SFits, to_z, of_z}
use mir.Syntax.{w64}
use Rattle.v_meaning.specs.Values as T
use Rattle.v_meaning.specs.Values.{meaning}
use Rattle.lowering_laws.specs.Terms.{above, between}
use Rattle.path_flatten.specs.Placing.{RanksSigned}
use Rattle.memory_words.specs.Words.{lowest, highest}
use Rattle.memory_words.proofs.Finding.{finds-between}
use Rattle.memory_words.proofs.Naming.{between-rank-names}
use Rattle.memory_words.proofs.words.word_between.Goals as goal

pub returns-clause-word : goal.returns-clause-word
returns-clause-word c =
    let b = c.args.bounds.now in
    let m = meaning c.in_ok-number.number.expr in
    let r = c.in_ok-made.made in
    let left_fits : SFits w64 c.args.bounds.now.left = search rules in
    let right_fits : SFits w64 c.args.bounds.now.right = search rules in
    let high_fits : SFits w64 c.highest.result = search rules in
    let low_fits : SFits w64 c.lowest.result = search rules in
    let high : to_z w64 (of_z w64 c.highest.result) ≡ highest c.args.bounds.now = to_z-of_z w64 c.highest.result high_fits ∙ c.highest.ensures in
    let low : to_z w64 (of_z w64 c.lowest.result) ≡ lowest c.args.bounds.now = to_z-of_z w64 c.lowest.result low_fits ∙ c.lowest.ensures in
    finds-between c.args.index b m c.in_ok-number.number.bits r c.in_ok-number.ensures.number c.in_ok-number.ensures.bits
    (record { above = omega (arith, ints); below = omega (arith, ints) }) (record { above = omega (arith, ints); below = omega (arith, ints) })
    (c.in_ok-made.ensures.guard ∙ (λ i. Some (between (T.signing true (meaning c.in_ok-number.number.expr)) 66 (low i) (high i))))
    (c.in_ok-made.ensures.rank ∙ ap (above (T.signing true (meaning c.in_ok-number.number.expr)) 66) low)
    (subst (λ (x : ℤ). RanksSigned (meaning c.in_ok-number.number.expr) 66 (highest c.args.bounds.now) x true c.in_ok-made.made) low
    (subst (λ (x : ℤ). RanksSigned (meaning c.in_ok-number.number.expr) 66 x (to_z w64 (of_z w64 c.lowest.result)) true c.in_ok-made.made) high c.in_ok-made.ensures.ranked))

pub returns-clause-names : goal.returns-clause-names
returns-clause-names c =
    between-rank-names c.args.index (meaning c.in_ok-number.number.expr) 66 (to_z w64 (of_z w64 c.lowest.result)) (to_z w64 (of_z w64 c.highest.result)) (to_z w64 (of_z w64 c.lowest.result)) c.in_ok-made.made
    c.in_ok-number.ensures.names c.in_ok-made.ensures.guard c.in_ok-made.ensures.rank
