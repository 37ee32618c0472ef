use Rattle.std.proofs.Common.{◌++◌, ◌-◌, ◌≤◌, length, replicate, get_or, sym, ap, ◌∙◌, arith}
use Rattle.std.proofs.lemmas.List.{drop_all}
use Rattle.std.proofs.lemmas.Nat.{pow_pos}
use Rattle.b4_core.specs.declared.bit.Bit4.TheVariants.{Zero}
use Rattle.b4_planes.proofs.Packed.{zero_bits, pack_more, digit_fits, value_le, unknown_le}
use Rattle.b4_planes.proofs.words.pack.Goals as goal

pub loop-i-init : goal.loop-i-init
loop-i-init c =
    let n = length c.args.bits.now in record {
      within = omega arith;
      value = pow_pos (64 - length c.args.bits.now);
      unknown = pow_pos (64 - length c.args.bits.now);
      bits =
          zero_bits (64 - length c.args.bits.now)
          ∙ ap (λ l. l ++ replicate (64 - length c.args.bits.now) Zero) (sym (drop_all (length c.args.bits.now) c.args.bits.now (omega arith)));
    }

pub loop-i-preserved : goal.loop-i-preserved
loop-i-preserved c =
    let i = c.loop-i.invariant in
    let b = get_or c.args.bits.now (c.loop-i.i - 1) Zero in
    let small : c.loop-i.i ≤ 64 = omega (arith, i.within, c.requires) in
    let value : c.digits-v.result.0 ≤ 1 = omega (arith, c.digits-v.ensures.value, value_le (get_or c.args.bits.now (c.loop-i.i - 1) Zero)) in
    let unknown : c.digits-v.result.1 ≤ 1 = omega (arith, c.digits-v.ensures.unknown, unknown_le (get_or c.args.bits.now (c.loop-i.i - 1) Zero)) in record {
      within = omega (arith, i.within);
      value = digit_fits c.loop-i.i _ _ c.loop-i-test.true small i.value value;
      unknown = digit_fits c.loop-i.i _ _ c.loop-i-test.true small i.unknown unknown;
      bits = pack_more c.args.bits.now c.loop-i.i _ _ _ _ _ c.loop-i-test.true i.within small c.digits-v.ensures.value c.digits-v.ensures.unknown i.bits;
    }
