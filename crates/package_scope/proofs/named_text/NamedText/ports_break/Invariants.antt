use Rattle.std.proofs.Common.{◌≡◌, None, drop}
use Rattle.package_scope.specs.Least.{least_over}
use Rattle.package_scope.specs.Rules as rules
use Rattle.package_scope.proofs.named_text.NamedText.ports_break.Given as goal

abbrev pub invariant-loop-port : goal.invariant-loop-port
invariant-loop-port l = least_over (rules.port_breaks l.self.tokens.now l.self.names.now l.rest l.around l.scope) l.least (drop l.port-index l.ports) ≡ least_over (rules.port_breaks l.self.tokens.now l.self.names.now l.rest l.around l.scope) None l.ports
