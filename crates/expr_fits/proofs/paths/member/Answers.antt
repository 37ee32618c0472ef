use Rattle.expr_fits.proofs.Forms as F
use Rattle.expr_fits.proofs.paths.member.Goals as goal

pub returns : goal.returns
returns c = λ fs. F.by-Member c.args.e.now (record { of = c.args.x; width = c.own.result }) c.args.k c.args.width fs c.requires.form c.requires.some (c.if-not-has_bits.ensures) (c.if-not-is_member_type.ensures) c.own.ensures.value
