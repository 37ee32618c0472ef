use Rattle.std.proofs.Common.{arith}
use Rattle.expr_fits.proofs.Forms as F
use Rattle.expr_fits.proofs.operators.equal.Goals as goal

pub returns : goal.returns
returns c = λ fs. F.by-Equal c.args.e.now c.args.op c.args.negated (record { of = c.args.x; width = c.max-bits.result }) (record { of = c.args.y; width = c.max-bits.result }) c.args.width fs c.requires.form c.requires.some (c.if-not-is_vector.ensures) (omega arith) (omega arith)
