use Rattle.b4_core.proofs.Operations.{negative_is, same_items}
use Rattle.b4_core.proofs.arithmetic.negative.Goals as goal

pub returns-in-Some : goal.returns-in-Some
returns-in-Some c =
    same_items _ _ _ (negative_is c.args.v.now _ _ c.requires c.in-Some.ensures c.wrapping_neg.ensures) c.low_digits.ensures
