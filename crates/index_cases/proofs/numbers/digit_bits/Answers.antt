use Rattle.std.proofs.Common.{◌≡◌, ◌<◌, ◌-◌, ◌++◌, append_assoc, append-nil, ap, sym, ◌∙◌, arith}
use Rattle.b4_core.specs.Vectors.{digits}
use Rattle.b4_core.proofs.Digits.{digits_next}
use Rattle.index_cases.proofs.numbers.digit_bits.Goals as goal

pub loop-i-preserved : goal.loop-i-preserved
loop-i-preserved c =
    let h : c.loop-i._i < c.args.width = omega arith in
    let next = digits_next c.args.width c.loop-i._i c.loop-i.rest h in
    let i : c.loop-i.bits.items ++ digits (c.args.width - c.loop-i._i) c.loop-i.rest ≡ digits c.args.width c.args.n = c.loop-i.invariant in
    rw (c.in_ok-push.ensures.items, c.bit_by.ensures, append_assoc, ← next) i

pub returns : goal.returns
returns c =
    let none : c.args.width - c.loop-i._i ≡ 0 = omega arith in
    c.from_vec.ensures ∙ sym (append-nil c.loop-i.bits.items) ∙ ap (λ k. c.loop-i.bits.items ++ digits k c.loop-i.rest) (sym none) ∙ c.loop-i.invariant
