use Rattle.std.proofs.Common.{◌∙◌, arith}
use Rattle.frame_things.proofs.Naming.{under-none}
use Rattle.frame_things.proofs.Placing.{member-none}
use Rattle.frame_things.proofs.members.slots_of.Goals as goal

pub loop-at-init : goal.loop-at-init
loop-at-init c = record {
  places = λ n q. under-none c.args.names.now c.new-slots.result c.new-slots.ensures n q ∙ member-none c.args.list.now n q;
  within = omega arith;
}
