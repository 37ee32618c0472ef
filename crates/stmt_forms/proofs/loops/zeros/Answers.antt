use Rattle.std.proofs.Common.{◌∙◌}
use Rattle.stmt_forms.proofs.Zeros.{zeros-end}
use Rattle.stmt_forms.proofs.loops.zeros.Goals as goal

pub returns : goal.returns
returns c = c.from_vec.ensures ∙ zeros-end c.loop-left.bits.items c.loop-left.left c.args.count c.loop-left-test.false c.loop-left.invariant
