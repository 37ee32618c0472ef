use Rattle.expr_fits.proofs.Forms as F
use Rattle.expr_fits.proofs.lists.fill.Goals as goal

pub returns : goal.returns
returns c = λ fs. F.by-Fill c.args.e.now c.args.b c.args.width fs c.requires.form c.requires.some (c.if-not-is_result.ensures)
