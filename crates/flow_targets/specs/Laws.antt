-- What is written is among the targets.
use Rattle.std.specs.Prelude.{◌≡◌, ℕ, ◌==◌, true, false}
use Rattle.std.specs.List.{list_any}
use Rattle.row_machine.specs.Valuation.{Place}
use Rattle.sv_types.specs.declared.statement.Stmt.{Stmt}
use Rattle.sv_types.specs.Surroundings.{Sight, is_signal}
use Rattle.sv_types.specs.Flows.{Flow, covered, uses_of}
use Rattle.sv_types.specs.Statements.{doing}

-- a flow doesn't write the bit
pub record Spares (q : Place) (f : Flow) : Type 0 where
  pub now : covered (uses_of f.writes) q ≡ false
  pub later : covered (uses_of f.later) q ≡ false

abbrev pub WritesAreTargets : Type 0
WritesAreTargets =
    (s : Stmt) (k : Sight) (q : Place) → is_signal q.signal ≡ true → list_any (λ (m : ℕ). m == q.signal) ((doing s).targets (λ f. (k.around.callee f).formals)) ≡ false
    → Spares q ((doing s).flow k)
