use Rattle.std.proofs.Common.{◌≡◌, ◌+◌, ◌-◌, ◌/◌, suc, IfOk, Ok, arith, subst}
use Rattle.v_tree.specs.declared.expressions.VExpr.{VExpr}
use Rattle.v_meaning.specs.Values as T
use Rattle.expr_lower.specs.Logarithms.{IsAtMost, LogSteps}
use Rattle.expr_lower.proofs.Comparisons.{only-power, by-halves}
use Rattle.expr_lower.proofs.logarithms.+least_power.Goals as goal

pub returns-then-from-to : goal.returns-then-from-to
returns-then-from-to t c =
    let y = T.meaning c.args.y.now in
    let r = T.meaning c.in_ok-only.only in
    let same = c.if-from-to.true in
    let none : 0 ≡ c.args.to - c.args.from = omega arith in
    subst (λ n. LogSteps y c.args.width n c.args.from r) none (only-power y c.args.width c.args.from r c.in_ok-only.ensures)

pub returns : goal.returns
returns t c =
    let y = T.meaning c.args.y.now in
    let w = c.args.width in
    let k = c.args.from in
    let m = (c.args.to - c.args.from) / 2 in
    let n = c.args.to - (k + m + 1) in
    let order = c.requires.order in
    let apart = c.if-from-to.false in
    let low : (k + m) - k ≡ m = omega arith in
    let next : k + m + 1 ≡ suc (k + m) = omega arith in
    let all : m + suc n ≡ c.args.to - k = omega arith in
    let test = subst (λ r. IfOk r (λ (e : VExpr). IsAtMost y w (k + m) (T.meaning e))) c.in_ok-test.ensures.0 c.at_most-test.ensures in
    let arms = subst (λ r. IfOk r (λ (b : VExpr × VExpr). (c.least_power-lower.result ≡ Ok b.0) × (c.least_power.result ≡ Ok b.1))) c.in_ok-test.ensures.1 c.both-arms.ensures in
    let lower = subst (λ r. IfOk r (λ (e : VExpr). LogSteps y w ((k + m) - k) k (T.meaning e))) arms.0 c.least_power-lower.ensures in
    let upper = subst (λ r. IfOk r (λ (e : VExpr). LogSteps y w n (k + m + 1) (T.meaning e))) arms.1 c.least_power.ensures in
    let first = T.meaning c.in_ok-test.arms.0 in
    let second = T.meaning c.in_ok-test.arms.1 in
    subst (λ j. LogSteps y w j k (T.meaning c.in_ok-made.made)) all
    (by-halves y w m n k (T.meaning c.in_ok-test.test) first second (T.meaning c.in_ok-made.made) test (subst (λ j. LogSteps y w j k first) low lower)
    (subst (λ j. LogSteps y w n j second) next upper) c.in_ok-made.ensures)
