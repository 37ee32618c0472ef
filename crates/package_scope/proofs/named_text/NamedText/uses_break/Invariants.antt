use Rattle.std.proofs.Common.{◌≡◌, None, drop}
use Rattle.package_scope.specs.Least.{least_over}
use Rattle.package_scope.specs.Rules as rules
use Rattle.package_scope.proofs.named_text.NamedText.uses_break.Given as goal

abbrev pub invariant-loop-found_by : goal.invariant-loop-found_by
invariant-loop-found_by l = least_over (rules.use_breaks l.self.tokens.now l.self.names.now) l.least (drop l.found_by-index l.uses) ≡ least_over (rules.use_breaks l.self.tokens.now l.self.names.now) None l.uses
