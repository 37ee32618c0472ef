use Rattle.part_flows.proofs.Parts as A
use Rattle.part_flows.proofs.locals.hold.Goals as goal

pub returns : goal.returns
returns c = A.holds c.write_local.result c.args.v c.args.bits.now c.args.locals.now.items c.write_local.new.locals.items _ c.entire.ensures.window c.write_local.ensures
