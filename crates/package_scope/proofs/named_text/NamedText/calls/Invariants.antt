use Rattle.std.proofs.Common.{◌≡◌, ◌++◌, drop}
use Rattle.std.specs.Prelude.{flat_map}
use Rattle.package_scope.specs.Rules as rules
use Rattle.package_scope.proofs.named_text.NamedText.calls.Given as goal

abbrev pub invariant-loop-found_by : goal.invariant-loop-found_by
invariant-loop-found_by l = l.calls ++ flat_map (rules.call_by l.self.tokens.now l.self.names.now) (drop l.found_by-index l.uses) ≡ rules.calls l.self.tokens.now l.self.names.now
