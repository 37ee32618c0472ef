use Rattle.bit_needs.proofs.Adding.{one-more}
use Rattle.bit_needs.proofs.needing.add_one.Goals as goal

pub returns : goal.returns
returns c = one-more c.args.number c.args.list.now c.push.new.self c.push.result c.push.ensures.ok
