use Rattle.std.proofs.Common.{◌≡◌, ◌+◌, ◌-◌, take, drop, ap, arith}
use Rattle.b4_planes.proofs.Packed.{packed_more}
use Rattle.b4_planes.proofs.words.pack_all.Goals as goal

pub loop-at-preserved : goal.loop-at-preserved
loop-at-preserved c =
    let size : c.loop-at.at + c.min.result - c.loop-at.at ≡ c.min.result = omega arith in
    packed_more c.loop-at.at c.min.result c.args.bits.now _ _ _ _ _ c.pack-value.result.0 c.pack-value.result.1 c.loop-at.invariant c.loop-at-test.true c.min.ensures
    (ap (λ k. take k (drop c.loop-at.at c.args.bits.now)) size)
    c.pack-value.ensures c.in_ok-push.ensures.items c.in_ok-push-2.ensures.items
