use Rattle.std.proofs.Common.{length, sym, ◌∙◌, arith}
use Rattle.package_scope.proofs.Slots.{under-none, import-none}
use Rattle.package_scope.proofs.index.imports_of.Goals as goal

pub loop-at-init : goal.loop-at-init
loop-at-init c = record {
  numbers = λ s q. under-none c.args.names.now c.new-slots.result c.new-slots.ensures s q ∙ sym (import-none c.args.list.now (length c.args.list.now) (omega arith) s q);
  within = omega arith;
}
