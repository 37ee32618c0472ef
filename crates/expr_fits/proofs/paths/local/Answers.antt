use Rattle.expr_fits.proofs.Forms as F
use Rattle.expr_fits.proofs.paths.local.Goals as goal

pub returns : goal.returns
returns c = λ fs. F.by-Local c.args.e.now c.args.n c.args.width fs c.requires.form c.requires.some (c.if-not-has_bits.ensures)
