use Rattle.std.proofs.Common.{sym, ◌∙◌}
use Rattle.package_scope.specs.Packages.{holders_in, holders_from}
use Rattle.package_scope.proofs.Starting.{holder-none, holder-push}
use Rattle.package_scope.proofs.packages.holders_of.Goals as goal

pub loop-declaration-init : goal.loop-declaration-init
loop-declaration-init c = λ q. holder-none c.args.names.now (holders_in c.new-holders.result) c.new-holders.ensures q (holders_from q c.args.list.now)

pub loop-declaration-preserved : goal.loop-declaration-preserved
loop-declaration-preserved c =
    holder-push c.args.names.now (holders_in c.loop-declaration.holders) (holders_in c.push.new.self) c.args.list.now c.loop-declaration.declaration-index c.declaration-item.result
    c.in-Some.number c.loop-declaration-test.true c.declaration-item.is (sym c.number.ensures ∙ c.in-Some.is) c.in_ok-push.ensures
    c.loop-declaration.invariant
