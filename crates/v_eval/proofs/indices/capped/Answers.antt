use Rattle.std.proofs.Common.{◌≡◌, ◌+◌, ◌-◌, ◌*◌, map, drop, min, arith, ap, sym, ◌∙◌}
use Rattle.b4_core.specs.Vectors.{num}
use Rattle.v_eval.specs.Indices.{most, flipped}
use Rattle.v_eval.proofs.Flips.{next-flip, none-left}
use Rattle.v_eval.proofs.indices.capped.Goals as goal

pub loop-i-init : goal.loop-i-init
loop-i-init c = (omega arith, ap (λ n. min n most) (sym (none-left c.args.negated c.args.v.now)))

pub loop-i-preserved : goal.loop-i-preserved
loop-i-preserved c =
    let v = c.args.v.now in
    let n = c.args.negated in
    let l = c.loop-i in
    let same : (l.i - 1) + 1 ≡ l.i = omega arith in
    let later : num (map (flipped n) (drop (l.i - 1 + 1) v)) ≡ num (map (flipped n) (drop l.i v)) = ap (λ k. num (map (flipped n) (drop k v))) same in
    let next : num (map (flipped n) (drop (l.i - 1) v)) ≡ c.digit_of.result + 2 * num (map (flipped n) (drop (l.i - 1 + 1) v)) =
    next-flip n v (l.i - 1) _ (omega (arith, l.invariant.0)) ∙ ap (λ k. k + 2 * num (map (flipped n) (drop (l.i - 1 + 1) v))) (sym c.digit_of.ensures) in
    (omega (arith, l.invariant.0), omega (arith, c.min-n.ensures, next, later, l.invariant.1))
