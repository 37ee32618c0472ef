use Rattle.expr_fits.proofs.Forms as F
use Rattle.expr_fits.proofs.operators.both.Goals as goal

pub returns : goal.returns
returns c = λ fs. F.by-Both c.args.e.now (record { of = c.args.x; width = c.own.result }) (record { of = c.args.y; width = c.own-2.result }) c.args.width fs c.requires.form c.requires.some (c.if-not-is_vector.ensures) c.own.ensures.value c.own-2.ensures.value
