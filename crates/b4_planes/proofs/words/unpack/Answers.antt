use Rattle.std.proofs.Common.{◌≡◌, ◌<◌, ◌-◌, ◌++◌, append_assoc, ap, ◌∙◌, sym, arith}
use Rattle.b4_planes.specs.Planes.{word_bits}
use Rattle.b4_planes.proofs.Packed.{word_bits_next, word_bits_none, append-nil}
use Rattle.b4_planes.proofs.words.unpack.Goals as goal

pub loop-i-preserved : goal.loop-i-preserved
loop-i-preserved c =
    let h : c.loop-i._i < 64 = omega arith in
    let next = word_bits_next c.loop-i._i c.loop-i.v c.loop-i.u h in
    let i : c.loop-i.bits.items ++ word_bits (64 - c.loop-i._i) c.loop-i.v c.loop-i.u ≡ c.args.bits.now.items ++ word_bits 64 c.args.value c.args.unknown = c.loop-i.invariant in
    rw (c.in_ok-push.ensures.items, c.bit.ensures, c.is_odd.ensures, c.is_odd-in-loop-i.ensures, append_assoc, ← next) i

pub returns : goal.returns
returns c =
    let none : 64 - c.loop-i._i ≡ 0 = omega arith in
    sym (append-nil c.loop-i.bits.items)
    ∙ ap (λ l. c.loop-i.bits.items ++ l) (sym (ap (λ k. word_bits k c.loop-i.v c.loop-i.u) none ∙ word_bits_none c.loop-i.v c.loop-i.u))
    ∙ c.loop-i.invariant
