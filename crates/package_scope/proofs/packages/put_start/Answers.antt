use Rattle.std.proofs.Common.{sym, ap, ◌∙◌}
use Rattle.package_scope.specs.Earliest.{sooner}
use Rattle.package_scope.proofs.Starting.{start-put}
use Rattle.package_scope.proofs.packages.put_start.Goals as goal

pub returns : goal.returns
returns c =
    start-put c.args.table.now c.args.starts.now c.put.new.self c.args.import.now c.in-Some.package c.sooner.result
    (sym c.package_scope.ensures ∙ c.in-Some.is) (c.sooner.ensures ∙ ap (sooner c.args.import.now.at) c.find-known.ensures) c.in_ok-put.ensures
