use Rattle.std.proofs.Common.{length, sym, ◌∙◌, arith}
use Rattle.package_scope.proofs.Remaining.{link-none}
use Rattle.package_scope.proofs.Slots.{under-none}
use Rattle.package_scope.proofs.rests.slots_of.Goals as goal

pub loop-at-init : goal.loop-at-init
loop-at-init c = record {
  numbers = λ n q. under-none c.args.names.now c.new-slots.result c.new-slots.ensures n q ∙ sym (link-none c.args.list.now (length c.args.list.now) (omega arith) n q);
  within = omega arith;
}
