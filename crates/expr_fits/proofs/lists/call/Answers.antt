use Rattle.std.proofs.Common.{arith}
use Rattle.eval_forms.specs.Callees.{formals_in}
use Rattle.expr_fits.proofs.Forms as F
use Rattle.expr_fits.proofs.lists.call.Goals as goal

pub returns : goal.returns
returns c = (c.if-not-are_narrow.ensures, F.by-Call c.args.e.now c.args.function c.args.es.now c.formals_of-formals.result.now c.args.width (formals_in c.args.functions.now) c.requires.form c.requires.some (c.if-not-has_bits.ensures) c.formals_of-formals.ensures (omega arith))
