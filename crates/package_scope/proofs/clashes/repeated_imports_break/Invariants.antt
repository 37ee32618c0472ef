use Rattle.std.proofs.Common.{◌≡◌, None, drop}
use Rattle.package_scope.specs.Least.{least_over}
use Rattle.package_scope.specs.Rules as rules
use Rattle.package_scope.proofs.clashes.repeated_imports_break.Given as goal

abbrev pub invariant-loop-import : goal.invariant-loop-import
invariant-loop-import l = least_over (rules.repeated_import_breaks l.table) l.least (drop l.import-index l.list) ≡ least_over (rules.repeated_import_breaks l.table) None l.list
