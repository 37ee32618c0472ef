use Rattle.std.proofs.Common.{refl, arith}
use Rattle.expr_fits.proofs.Forms as F
use Rattle.expr_fits.proofs.operators.choose.Goals as goal

pub returns : goal.returns
returns c = λ fs. F.by-Choose c.args.e.now (record { of = c.args.z; width = c.own-3.result }) (record { of = c.args.x; width = c.args.width }) (record { of = c.args.y; width = c.args.width }) c.args.width fs c.requires.form c.requires.some (F.result _ _ _ _ _ (c.if-not-is_result.ensures) (omega arith) c.are_signed-signed.ensures) c.own-3.ensures.value refl refl
