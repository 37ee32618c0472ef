use Rattle.std.proofs.Common.{◌≡◌, ◌+◌, ◌-◌, ◌*◌, ◌/◌, ◌<◌, ◌≤◌, ◌∙◌, length, refl, arith}
use Rattle.eval_parts.proofs.Streams.{fewer, made-first, made-next}
use Rattle.eval_parts.proofs.orders.slices_reversed.Goals as goal

pub loop-count-preserved : goal.loop-count-preserved
loop-count-preserved c =
    let l = c.loop-count in
    let e = fewer l.count c.args.slice (omega arith) in
    let at : l.from ≡ (l.count - 1) * c.args.slice + c.args.slice = l.invariant.at ∙ e in
    record {
      at = omega (arith, at);
      within = omega (arith, l.invariant.within);
      made = made-next c.args.slice l.from c.args.bits.now l.reversed.items _ (omega arith) (omega (arith, at)) l.invariant.within l.invariant.made c.in_ok-extend_from_slice-2.ensures.items;
    }

pub loop-count-init : goal.loop-count-init
loop-count-init c =
    let v = c.args.bits.now in
    let n = c.args.slice in
    let from = length v / n * n in
    let within : from ≤ length v = omega arith in
    let last : length v - from < n = omega arith in
    record {
      at = refl;
      within = within;
      made = made-first n from v _ _ (omega arith) last c.in_ok-reversed.ensures.items c.in_ok-extend_from_slice.ensures.items;
    }
