use Rattle.std.proofs.Common.{◌≡◌, ◌≤◌, length, drop}
use Rattle.v_scopes.specs.Env.{found}
use Rattle.v_stmt_rules.specs.Stmts.{nothing}
use Rattle.v_rules.specs.ModuleNames.{ports_given}
use Rattle.v_rules.proofs.names.module_ports.Given as goal

abbrev pub invariant-loop-at : goal.invariant-loop-at
invariant-loop-at l = (l.at ≤ length l.items) × (found l.ports ≡ ports_given (drop l.at l.items) nothing)

abbrev pub decreases-loop-at : goal.decreases-loop-at
decreases-loop-at l = l.at
