use Rattle.expr_fits.proofs.Forms as F
use Rattle.expr_fits.proofs.operators.reduce.Goals as goal

pub returns : goal.returns
returns c = λ fs. F.by-Reduce c.args.e.now c.args.op (record { of = c.args.x; width = c.own.result }) c.args.width fs c.requires.form c.requires.some (c.if-not-is_vector.ensures) c.own.ensures.value
