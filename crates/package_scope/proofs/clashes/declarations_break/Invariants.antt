use Rattle.std.proofs.Common.{◌≡◌, None, drop}
use Rattle.package_scope.specs.Least.{least_over}
use Rattle.package_scope.specs.Rules as rules
use Rattle.package_scope.proofs.clashes.declarations_break.Given as goal

abbrev pub invariant-loop-declaration : goal.invariant-loop-declaration
invariant-loop-declaration l = least_over (rules.declaration_breaks l.table) l.least (drop l.declaration-index l.list) ≡ least_over (rules.declaration_breaks l.table) None l.list
