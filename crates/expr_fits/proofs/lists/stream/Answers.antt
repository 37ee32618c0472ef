use Rattle.std.proofs.Common.{refl}
use Rattle.expr_fits.proofs.Forms as F
use Rattle.expr_fits.proofs.lists.stream.Goals as goal

pub returns : goal.returns
returns c = λ fs. F.by-Stream c.args.e.now c.args.reversed c.args.slice c.args.parts.now c.args.width fs c.requires.form c.requires.some (F.result _ _ _ _ _ (c.if-not-is_result.ensures) c.own_of_all.ensures refl)
