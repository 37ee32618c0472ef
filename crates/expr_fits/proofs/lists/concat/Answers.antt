use Rattle.std.proofs.Common.{refl}
use Rattle.expr_fits.proofs.Forms as F
use Rattle.expr_fits.proofs.lists.concat.Goals as goal

pub returns : goal.returns
returns c = λ fs. F.by-Concat c.args.e.now c.args.es.now c.args.width fs c.requires.form c.requires.some (F.vector _ _ _ _ _ (c.if-not-is_vector.ensures) c.own_of_all.ensures refl)
