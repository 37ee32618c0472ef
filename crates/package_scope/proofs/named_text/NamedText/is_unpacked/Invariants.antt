use Rattle.std.proofs.Common.{◌≡◌}
use Rattle.package_scope.specs.Rules as rules
use Rattle.package_scope.proofs.named_text.NamedText.is_unpacked.Given as goal

abbrev pub invariant-loop-left : goal.invariant-loop-left
invariant-loop-left l = rules.unpacked l.self.tokens.now l.self.names.now l.left (rules.declaration_at l.self.tokens.now l.self.names.now l.token) ≡ rules.is_unpacked l.self.tokens.now l.self.names.now l.fn.token

abbrev pub decreases-loop-left : goal.decreases-loop-left
decreases-loop-left l = l.left
