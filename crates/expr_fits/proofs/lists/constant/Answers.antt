use Rattle.expr_fits.proofs.Forms as F
use Rattle.expr_fits.proofs.lists.constant.Goals as goal

pub returns : goal.returns
returns c = λ fs. F.by-Constant c.args.e.now c.args.v.now c.args.width fs c.requires.form c.requires.some (F.result _ _ _ _ _ (c.if-not-is_result.ensures) c.bits_in.ensures c.is_signed.ensures)
