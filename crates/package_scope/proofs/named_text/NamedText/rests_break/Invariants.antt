use Rattle.std.proofs.Common.{◌≡◌, None, drop}
use Rattle.package_scope.specs.Least.{least_over}
use Rattle.package_scope.specs.Rules as rules
use Rattle.package_scope.proofs.named_text.NamedText.rests_break.Given as goal

abbrev pub invariant-loop-rest : goal.invariant-loop-rest
invariant-loop-rest l = least_over (rules.rest_breaks l.self.tokens.now l.self.names.now) l.least (drop l.rest-index l.list) ≡ least_over (rules.rest_breaks l.self.tokens.now l.self.names.now) None l.list
