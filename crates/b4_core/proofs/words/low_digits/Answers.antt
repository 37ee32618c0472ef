use Rattle.std.proofs.Common.{◌≡◌, ◌<◌, ◌-◌, ◌++◌, append_assoc, arith}
use Rattle.b4_core.specs.Vectors.{digits}
use Rattle.b4_core.proofs.Digits.{digits_next}
use Rattle.b4_core.proofs.words.low_digits.Goals as goal

pub loop-i-preserved : goal.loop-i-preserved
loop-i-preserved c =
    let h : c.loop-i._i < c.args.width = omega arith in
    let next = digits_next c.args.width c.loop-i._i c.loop-i.rest h in
    let i : c.loop-i.bits.items ++ digits (c.args.width - c.loop-i._i) c.loop-i.rest ≡ digits c.args.width c.args.n = c.loop-i.invariant in
    rw (c.in_ok-push.ensures.items, c.bit_of_test.ensures, append_assoc, ← next) i
