use Rattle.std.proofs.Common.{◌≡◌, ◌-◌, IfOk, Ok, arith, subst, ◌∙◌}
use Rattle.b4_core.specs.Vectors.{unknown}
use Rattle.v_tree.specs.declared.expressions.VExpr.{VExpr}
use Rattle.v_meaning.specs.Values as T
use Rattle.expr_lower.specs.Logarithms.{lost, LogSteps}
use Rattle.expr_lower.proofs.Comparisons.{is-logarithm, if-ok}
use Rattle.expr_lower.proofs.logarithms.logarithm.Goals as goal

pub returns : goal.returns
returns c =
    let y = T.meaning c.args.y in
    let w = c.args.width in
    let on = subst (λ r. IfOk r (λ (m : VExpr). T.meaning m ≡ lost y)) c.in_ok-test.ensures.0 c.is_lost-test.ensures in
    let arms = subst (λ r. IfOk r (λ (b : VExpr × VExpr). (c.unknown_word.result ≡ Ok b.0) × (c.least_power.result ≡ Ok b.1))) c.in_ok-test.ensures.1 c.both-arms.ensures in
    let word = subst (λ r. IfOk r (λ (m : VExpr). T.meaning m ≡ T.literal (unknown 32))) arms.0 c.unknown_word.ensures in
    let all : w - 0 ≡ w = omega arith in
    let steps = subst (λ n. LogSteps y w n 0 (T.meaning c.in_ok-test.arms.1)) all (subst (λ r. IfOk r (λ (m : VExpr). LogSteps y w (w - 0) 0 (T.meaning m))) arms.1 c.least_power.ensures) in
    if-ok c.choose.result _ _ (λ m made. is-logarithm y w (T.meaning c.in_ok-test.arms.1) (T.meaning m) steps (made ∙ (λ i. T.choose (on i) (word i) (T.meaning c.in_ok-test.arms.1)))) c.choose.ensures
