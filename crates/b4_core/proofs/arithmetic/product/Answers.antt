use Rattle.b4_core.proofs.Operations.{product_is, same_items_for_all}
use Rattle.b4_core.proofs.arithmetic.product.Goals as goal

pub returns-in-Some : goal.returns-in-Some
returns-in-Some c =
    same_items_for_all _ _ _
    (product_is c.args.a.now c.args.b.now c.in-Some.x c.in-Some.y c.requires.same c.requires.narrow c.in-Some.ensures)
    c.low_digits.ensures
