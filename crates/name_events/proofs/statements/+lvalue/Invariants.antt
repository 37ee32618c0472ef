use Rattle.std.proofs.Common.{◌≡◌, drop}
use Rattle.name_events.specs.Statements as means
use Rattle.name_events.proofs.statements.+lvalue.Given as goal

abbrev pub invariant-targets-loop-target : goal.invariant-targets-loop-target
invariant-targets-loop-target l = means.targets l.role (drop l.target-index l.list) l.to ≡ means.targets l.role l.list l.fn.to
