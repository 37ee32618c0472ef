use Rattle.std.proofs.Common.{refl, arith}
use Rattle.expr_fits.proofs.Forms as F
use Rattle.expr_fits.proofs.operators.shift.Goals as goal

pub returns : goal.returns
returns c = λ fs. F.by-Shift c.args.e.now c.args.op (record { of = c.args.x; width = c.args.width }) (record { of = c.args.y; width = c.own-2.result }) c.args.width fs c.requires.form c.requires.some (F.vector _ _ _ _ _ (c.if-not-is_vector.ensures) (omega arith) c.own_sign.ensures) refl c.own-2.ensures.value
