use Rattle.expr_fits.proofs.Forms as F
use Rattle.expr_fits.proofs.operators.cast.Goals as goal

pub returns : goal.returns
returns c = λ fs. F.by-Cast c.args.e.now (record { of = c.args.x; width = c.own.result }) c.args.width fs c.requires.form c.requires.some (c.if-not-has_bits.ensures) c.own.ensures.value
