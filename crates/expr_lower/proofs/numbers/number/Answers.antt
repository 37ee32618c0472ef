use Rattle.std.proofs.Common.{subst}
use Rattle.v_meaning.specs.Values.{meaning}
use Rattle.v_build.specs.Trees.{meanings}
use Rattle.expr_lower.specs.Numbers.{ArePieces}
use Rattle.expr_lower.proofs.Values.{number-short, number-long}
use Rattle.expr_lower.proofs.numbers.number.Goals as goal

pub returns-then-len-le-MOST : goal.returns-then-len-le-MOST
returns-then-len-le-MOST c = number-short (meaning c.literal.result) c.args.bits c.literal.ensures

pub returns : goal.returns
returns c =
    number-long (meaning c.concatenation.result) (meanings c.in_ok-parts.parts) c.args.bits c.concatenation.ensures
    (subst (ArePieces (meanings c.in_ok-parts.parts)) c.as_slice.ensures c.in_ok-parts.ensures)
