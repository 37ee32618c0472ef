use Rattle.path_steps.proofs.Fixing.{valued}
use Rattle.path_steps.proofs.known.free_bits.Goals as goal

pub returns : goal.returns
returns c = valued c.args.e.now c.own_width.result c.own_sign.result _ _ _ c.bits.result c.ended.result c.requires.free c.own_width.ensures c.own_sign.ensures c.bits.ensures c.ended.ensures
