use Rattle.std.proofs.Common.{arith, ◌<◌, ◌+◌, ◌-◌, ◌/◌, length}
use Rattle.bit_sets.proofs.Steps as S
use Rattle.bit_tokens.proofs.first_behind.Goals as goal

pub loop-low-preserved-then-set-middle : goal.loop-low-preserved-then-set-middle
loop-low-preserved-then-set-middle c =
    let low = c.loop-low.low in
    let high = c.loop-low.high in
    let within = c.loop-low.invariant.within in
    let below = c.loop-low-test.true in
    let here : low + (high - low) / 2 < high = grind arith in
    let short : low + (high - low) / 2 < length c.args.set.now = omega arith in record {
      ordered = omega arith;
      within = within;
      value = λ k at. S.ended 0 c.args.n (low + (high - low) / 2) k c.args.set.now S.zero_span c.requires.set short c.if-set-middle.true at;
      behind = c.loop-low.invariant.behind;
    }
