use Rattle.std.proofs.Common.{refl, arith}
use Rattle.expr_fits.proofs.Forms as F
use Rattle.expr_fits.proofs.operators.power.Goals as goal

pub returns : goal.returns
returns c = λ fs. F.by-Power c.args.e.now (record { of = c.args.x; width = c.args.width }) (record { of = c.args.y; width = c.own-3.result }) c.args.width fs c.requires.form c.requires.some (F.vector _ _ _ _ _ (c.if-not-is_vector.ensures) (omega arith) c.own_sign.ensures) (omega (arith, c.if-not-is_word.ensures)) refl c.own-3.ensures.value
