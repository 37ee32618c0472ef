use Rattle.std.proofs.Common.{◌≡◌, None, drop}
use Rattle.package_scope.specs.Least.{least_over}
use Rattle.package_scope.specs.Rules as rules
use Rattle.package_scope.proofs.named_text.NamedText.imports_break.Given as goal

abbrev pub invariant-loop-import : goal.invariant-loop-import
invariant-loop-import l = least_over (rules.import_breaks l.self.tokens.now l.self.names.now) l.least (drop l.import-index l.imports) ≡ least_over (rules.import_breaks l.self.tokens.now l.self.names.now) None l.imports
