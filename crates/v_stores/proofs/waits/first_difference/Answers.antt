use Rattle.std.proofs.Common.{arith}
use Rattle.std.proofs.lemmas.List.{ext_get_or}
use Rattle.b4_core.specs.declared.bit.Bit4.TheVariants.{X}
use Rattle.v_stores.proofs.waits.first_difference.Goals as goal

pub returns : goal.returns
returns c = ext_get_or X c.args.v.now c.args.u.now c.requires (λ k h. c.loop-k.invariant k (omega arith))
