use Rattle.std.proofs.Common.{arith}
use Rattle.expr_fits.proofs.OwnTypes.{has-some}
use Rattle.expr_fits.proofs.Forms as F
use Rattle.expr_fits.proofs.lists.pattern.Goals as goal

pub returns : goal.returns
returns c = λ fs. ((omega (arith, has-some _ (c.if-not-has_bits.ensures)), ((c.if-not-has_bits.ensures)).narrow), F.by-Pattern c.args.e.now c.args.es.now c.args.width fs c.requires.form c.requires.some (c.if-not-has_bits.ensures))
