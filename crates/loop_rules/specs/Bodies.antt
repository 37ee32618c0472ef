-- What is known of a body, if it can be unrolled.
use Rattle.std.specs.Prelude.{◌≡◌, true, false, Option, Some, None}
use Rattle.sv_types.specs.declared.design.Design.{Design}
use Rattle.sv_types.specs.declared.statement.Stmt.{Stmt}
use Rattle.sv_types.specs.Machine.{parts, unseen}
use Rattle.sv_types.specs.Statements.{doing}
use Rattle.flow_sets.specs.declared.found.Found.{Found}
use Rattle.flow_sets.specs.Flows.{IsFlow}
use Rattle.design_breaks.specs.Breaks.{unrolls}

abbrev pub IsFoundIn : Design → Stmt → Option Found → Type 0
IsFoundIn d s None = unrolls d s ≡ false
IsFoundIn d s (Some f) = (unrolls d s ≡ true) × IsFlow f ((doing s).flow (unseen (parts d)))
