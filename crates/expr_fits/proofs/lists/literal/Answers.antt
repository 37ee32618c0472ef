use Rattle.std.proofs.Common.{arith}
use Rattle.expr_fits.proofs.Forms as F
use Rattle.expr_fits.proofs.lists.literal.Goals as goal

pub returns : goal.returns
returns c = λ fs. F.by-Literal c.args.e.now c.args.v.now c.args.goes_on c.args.width fs c.requires.form c.requires.some (F.result _ _ _ _ _ (c.if-not-is_result.ensures) (omega arith) c.is_signed.ensures)
