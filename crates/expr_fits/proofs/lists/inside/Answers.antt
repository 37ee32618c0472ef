use Rattle.expr_fits.proofs.Forms as F
use Rattle.expr_fits.proofs.lists.inside.Goals as goal

pub returns : goal.returns
returns c = λ fs. F.by-Inside c.args.e.now c.args.x.now c.args.choices.now c.args.width fs c.requires.form c.requires.some (c.if-not-is_vector.ensures)
