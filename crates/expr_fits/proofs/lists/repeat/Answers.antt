use Rattle.std.proofs.Common.{◌*◌, refl, arith, ap, ◌∙◌}
use Rattle.expr_fits.proofs.Forms as F
use Rattle.expr_fits.proofs.lists.repeat.Goals as goal

pub returns : goal.returns
returns c = λ fs. F.by-Repeat c.args.e.now c.args.n c.args.es.now c.args.width fs c.requires.form c.requires.some (F.vector _ _ _ _ _ (c.if-not-is_vector.ensures) (ap (λ k. k * c.own_of_all.result) c.from.ensures ∙ ap (λ k. c.args.n * k) c.own_of_all.ensures) refl)
