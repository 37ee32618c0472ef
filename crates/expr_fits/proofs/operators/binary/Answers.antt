use Rattle.std.proofs.Common.{refl, arith}
use Rattle.expr_fits.proofs.Forms as F
use Rattle.expr_fits.proofs.operators.binary.Goals as goal

pub returns : goal.returns
returns c = λ fs. F.by-Binary c.args.e.now c.args.op (record { of = c.args.x; width = c.args.width }) (record { of = c.args.y; width = c.args.width }) c.args.width fs c.requires.form c.requires.some (F.vector _ _ _ _ _ (c.if-not-is_vector.ensures) (omega arith) c.are_signed-signed.ensures) (c.if-not-is_binary_word.ensures) refl refl
