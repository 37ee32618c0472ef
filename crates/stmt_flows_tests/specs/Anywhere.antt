-- Statements that keep the limits of their runs, whatever signals are held.
use Rattle.std.specs.Prelude.{⊤, ℕ, Bool, true, false, List}
use Rattle.sv_types.specs.declared.statement.Stmt.{Stmt}
use Rattle.sv_types.specs.Surroundings.{Parameter}
use Rattle.eval_stmts.specs.Limits.{StmtFits}

abbrev pub AnywhereIf : Bool → Stmt → (ℕ → List Parameter) → Type 0
AnywhereIf true s fs = StmtFits s fs (λ n. true)
AnywhereIf false s fs = ⊤
