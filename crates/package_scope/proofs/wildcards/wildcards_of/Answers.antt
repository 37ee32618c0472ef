use Rattle.std.proofs.Common.{ℕ, ◌++◌, List, ap, ◌∙◌}
use Rattle.std.specs.Prelude.{filter}
use Rattle.package_scope.specs.Index.{wildcards_in, with_wildcard}
use Rattle.package_scope.specs.Lookup.{stands_in}
use Rattle.package_scope.specs.declared.table.WildcardImport.{WildcardImport}
use Rattle.package_scope.proofs.Lists.{wildcard-push}
use Rattle.package_scope.proofs.wildcards.wildcards_of.Goals as goal

pub loop-import-init : goal.loop-import-init
loop-import-init c = λ s. ap (λ (f : ℕ → List WildcardImport). f s ++ filter (stands_in s) c.args.list.now) c.new-wildcards.ensures

pub loop-import-preserved : goal.loop-import-preserved
loop-import-preserved c =
    wildcard-push (wildcards_in c.loop-import.wildcards) (wildcards_in c.push.new.self) c.args.list.now c.loop-import.import-index c.import-item.result
    c.loop-import-test.true c.import-item.is
    (c.in_ok-push.ensures ∙ ap (λ i. with_wildcard (wildcards_in c.loop-import.wildcards) i) c.in_ok-copy.ensures)
    c.loop-import.invariant
