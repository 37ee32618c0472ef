use Rattle.std.proofs.Common.{◌≡◌, drop}
use Rattle.package_scope.specs.Lookup as means
use Rattle.package_scope.specs.Packages.{all_held}
use Rattle.package_scope.proofs.meaning.all_hold.Given as goal

abbrev pub invariant-loop-holder : goal.invariant-loop-holder
invariant-loop-holder l = means.both l.together (all_held l.table l.scope l.name l.token (drop l.holder-index l.holders)) ≡ all_held l.table l.scope l.name l.token l.holders
