use Rattle.std.proofs.Common.{◌-◌, length, sym, ◌∙◌, arith}
use Rattle.package_scope.proofs.Slots.{under-none, everywhere-none, everywhere-step}
use Rattle.package_scope.proofs.index.everywhere_of.Goals as goal

pub loop-at-init : goal.loop-at-init
loop-at-init c = record {
  numbers = λ s q. under-none c.args.names.now c.new-slots.result c.new-slots.ensures s q ∙ sym (everywhere-none c.args.list.now (length c.args.list.now) (omega arith) s q);
  within = omega arith;
}

pub loop-at-preserved : goal.loop-at-preserved
loop-at-preserved c = record {
  numbers = everywhere-step c.args.names.now c.loop-at.slots c.put_everywhere.new.slots c.args.list.now c.loop-at.at (c.loop-at.at - 1) c.index-list-at.result
      (omega arith) (omega arith) c.index-list-at.is c.loop-at.invariant.numbers c.in_ok-put_everywhere.ensures;
  within = omega arith;
}
