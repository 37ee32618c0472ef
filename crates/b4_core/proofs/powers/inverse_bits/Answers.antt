use Rattle.std.proofs.Common.{◌≡◌, unsigned_abs, ◌∙◌, arith}
use Rattle.b4_core.proofs.Operations.{inverse_of_unit, same_items}
use Rattle.b4_core.proofs.powers.inverse_bits.Goals as goal

pub returns-in-1 : goal.returns-in-1
returns-in-1 c =
    let unit : unsigned_abs c.args.base ≡ 1 = omega arith in
    same_items _ _ _
    (c.power_word.ensures c.args.width c.requires ∙ inverse_of_unit c.args.width c.args.exponent c.args.base unit)
    c.low_digits.ensures
