use Rattle.std.proofs.Common.{refl, arith}
use Rattle.expr_fits.proofs.Forms as F
use Rattle.expr_fits.proofs.operators.unary.Goals as goal

pub returns : goal.returns
returns c = λ fs. F.by-Unary c.args.e.now c.args.op (record { of = c.args.x; width = c.args.width }) c.args.width fs c.requires.form c.requires.some (F.vector _ _ _ _ _ (c.if-not-is_vector.ensures) (omega arith) c.own_sign.ensures) (c.if-not-is_unary_word.ensures) refl
