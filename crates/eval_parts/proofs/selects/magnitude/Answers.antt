-- One digit more.
use Rattle.std.proofs.Common.{◌≡◌, ◌+◌, ◌-◌, ◌*◌, ◌<◌, ◌^◌, drop, length, arith, ap, sym, ◌∙◌, subst}
use Rattle.b4_core.specs.Vectors.{num}
use Rattle.eval_parts.proofs.Products.{next-num, rest-below}
use Rattle.eval_parts.proofs.selects.magnitude.Goals as goal

pub loop-i-preserved : goal.loop-i-preserved
loop-i-preserved c =
    let v = c.args.v.now in
    let l = c.loop-i in
    let same : (l.i - 1) + 1 ≡ l.i = omega arith in
    let later : num (drop (l.i - 1 + 1) v) ≡ num (drop l.i v) = ap (λ k. num (drop k v)) same in
    let next : num (drop (l.i - 1) v) ≡ c.digit_of.result + 2 * num (drop (l.i - 1 + 1) v) = next-num v (l.i - 1) _ (omega arith) ∙ ap (λ k. k + 2 * num (drop (l.i - 1 + 1) v)) (sym c.digit_of.ensures) in
    let value : 2 * l.n + c.digit_of.result ≡ num (drop (l.i - 1) v) = omega (arith, next, later, l.invariant.value) in
    record { within = omega arith; value = value; small = subst (λ n. n < 2 ^ (length v - (l.i - 1))) (sym value) (rest-below v (l.i - 1)) }
