use Rattle.std.proofs.Common.{◌-◌, length, arith}
use Rattle.package_scope.proofs.Starting.{start-none, start-step}
use Rattle.package_scope.proofs.packages.starts_of.Goals as goal

pub loop-at-init : goal.loop-at-init
loop-at-init c = record {
  starts = start-none c.args.table.now c.new-starts.result c.args.list.now (length c.args.list.now) c.new-starts.ensures (omega arith);
  within = omega arith;
}

pub loop-at-preserved : goal.loop-at-preserved
loop-at-preserved c = record {
  starts = start-step c.args.table.now c.loop-at.starts c.put_start.new.starts c.args.list.now c.loop-at.at (c.loop-at.at - 1) c.index-list-at.result
      (omega arith) (omega arith) c.index-list-at.is c.loop-at.invariant.starts c.in_ok-put_start.ensures;
  within = omega arith;
}
