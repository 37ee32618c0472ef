use Rattle.std.proofs.Common.{◌≡◌, ◌<◌, ◌≤◌, ◌-◌, ◌+◌, ◌^◌, true, length, sym, ◌∙◌, arith}
use Rattle.std.proofs.Math.Nat.{pow-le-pow_right}
use Rattle.b4_core.specs.Bits.{is_one}
use Rattle.b4_core.specs.Vectors.{num, top_bit}
use Rattle.b4_core.proofs.Numbers.{num_lt, num_pos}
use Rattle.b4_core.proofs.TwosComplement.{ones_word, snum_of_top}
use Rattle.b4_core.proofs.integers.Integer.of_vector.Goals as goal

pub overflow_sub-most-then-is_set : goal.overflow_sub-most-then-is_set
overflow_sub-most-then-is_set c =
    omega (arith, ones_word (length c.args.v.now) c.requires.narrow, num_lt c.args.v.now)

pub overflow_add-most : goal.overflow_add-most
overflow_add-most c =
    let top : is_one (top_bit c.args.v.now) ≡ true = sym c.is_set.ensures ∙ c.if-is_set.true in
    let some = num_pos c.args.v.now (length c.args.v.now - 1) top in
    let room : 2 ^ length c.args.v.now ≤ 2 ^ 128 = pow-le-pow_right {n = 2} (omega arith) c.requires.narrow in
    let low : 2 ^ length c.args.v.now - 1 - c.args.word + 1 < 2 ^ 128 = omega (arith, num_lt c.args.v.now) in
    rw (ones_word (length c.args.v.now) c.requires.narrow) (record { fits = low })

pub returns-then-is_set : goal.returns-then-is_set
returns-then-is_set c =
    let top : is_one (top_bit c.args.v.now) ≡ true = sym c.is_set.ensures ∙ c.if-is_set.true in
    let whole : 2 ^ length c.args.v.now - 1 - c.args.word + 1 + num c.args.v.now ≡ 2 ^ length c.args.v.now =
    omega (arith, num_lt c.args.v.now) in
    rw (c.if-signed.true, ones_word (length c.args.v.now) c.requires.narrow)
    (snum_of_top c.args.v.now (2 ^ length c.args.v.now - 1 - c.args.word + 1) top whole)
