use Rattle.std.proofs.Common.{arith}
use Rattle.expr_fits.proofs.Forms as F
use Rattle.expr_fits.proofs.paths.index.Goals as goal

pub returns : goal.returns
returns c = λ fs. F.by-Index c.args.e.now (record { of = c.args.x; width = c.own-2.result }) (record { of = c.args.y; width = c.own-3.result }) c.args.width fs c.requires.form c.requires.some (c.if-not-has_bits.ensures) (c.if-not-is_element_type.ensures) (omega (arith, c.if-not-is_short.ensures)) c.own-2.ensures.value c.own-3.ensures.value
