use Rattle.std.proofs.Common.{◌≡◌, None, drop}
use Rattle.package_scope.specs.Least.{least_over}
use Rattle.package_scope.specs.Rules as rules
use Rattle.package_scope.proofs.named_text.NamedText.events_break.Given as goal

abbrev pub invariant-loop-event : goal.invariant-loop-event
invariant-loop-event l = least_over (rules.event_breaks l.self.tokens.now l.self.names.now) l.least (drop l.event-index l.events) ≡ least_over (rules.event_breaks l.self.tokens.now l.self.names.now) None l.events
