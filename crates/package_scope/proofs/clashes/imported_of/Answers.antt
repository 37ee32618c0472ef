use Rattle.std.proofs.Common.{◌-◌, length, sym, subst, ◌∙◌, arith}
use Rattle.package_scope.specs.Earliest.{of_import, Adds}
use Rattle.package_scope.proofs.Clashing.{kept-none, earliest-none, imported-add}
use Rattle.package_scope.proofs.clashes.imported_of.Goals as goal

pub loop-at-init : goal.loop-at-init
loop-at-init c = record {
  numbers = λ s q. kept-none c.args.names.now c.new-clashes.result c.new-clashes.ensures s q ∙ sym (earliest-none (of_import c.args.names.now) c.args.list.now (length c.args.list.now) (omega arith) s q);
  within = omega arith;
}

pub loop-at-preserved : goal.loop-at-preserved
loop-at-preserved c =
    let d = c.index-list-at.result in
    record {
      numbers = imported-add c.args.names.now c.loop-at.clashes c.add.new.self c.args.list.now c.loop-at.at (c.loop-at.at - 1) d
          (omega arith) (omega arith) c.index-list-at.is c.loop-at.invariant.numbers
          (subst (λ share. Adds c.args.names.now c.loop-at.clashes c.add.new.self d.scope d.name d.at share) c.number-share.ensures c.in_ok-add.ensures);
      within = omega arith;
    }
