-- What is known of statements before they run holds in each run.
use Rattle.std.specs.Prelude.{◌≡◌, ℕ, Bool, true, false, ◌&&◌, ◌==◌, not, List, length, Option, Some, None, is_some}
use Rattle.std.specs.List.{list_all}
use Rattle.b4_core.specs.declared.bit.Bit4.{Bit4}
use Rattle.sv_types.specs.declared.statement.Local.{Local}
use Rattle.sv_types.specs.declared.statement.Stmt.{Stmt, Stmt-F, fold-Stmt}
use Rattle.sv_types.specs.declared.statement.CaseItem.{CaseItem-F}
use Rattle.sv_types.specs.Surroundings.{Sight, local_number}
use Rattle.sv_types.specs.Meanings.{wide}
use Rattle.sv_types.specs.Expressions.{meaning}
use Rattle.sv_types.specs.Statements.{doing}
use Rattle.flow_laws.specs.Runs.{Variables, Conforms, Apart}

abbrev pub or_true : Option Bool → Bool
or_true None = true
or_true (Some b) = b

abbrev pub has_width : Option ℕ → ℕ → Bool
has_width None w = false
has_width (Some v) w = v == w

-- a local of a block is no variable of a loop
abbrev pub is_plain : Variables → Local → Bool
is_plain vars l = not (is_some (vars (local_number l.number)))

abbrev pub item_step : CaseItem-F Bool Bool → Bool
item_step i = i.body

abbrev pub stmt_step : Variables → Stmt-F Bool Bool → Bool
stmt_step vars (Stmt-F.Block locals body) = list_all (is_plain vars) locals && list_all (λ b. b) body
stmt_step vars (Stmt-F.If on body other) = body && or_true other
stmt_step vars (Stmt-F.Case kind on items other) = list_all (λ b. b) items && or_true other
stmt_step vars (Stmt-F.Loop n first test step body spot) = has_width (vars (local_number n)) (wide (meaning first)) && body
stmt_step vars (Stmt-F.Assign to value later spot) = true
stmt_step vars (Stmt-F.Call f actuals spot) = true
stmt_step vars (Stmt-F.Made locals before body) = list_all (is_plain vars) locals && (list_all (λ b. b) before && or_true body)
stmt_step vars Stmt-F.Break = true
stmt_step vars Stmt-F.Continue = true
stmt_step vars Stmt-F.Return = true

-- its loops have these variables, and the locals of its blocks are none of them
abbrev pub has_variables : Variables → Stmt → Bool
has_variables vars = fold-Stmt Bool Bool (stmt_step vars) item_step

-- each function gives each of its formals a last value, as all of a design's do
abbrev pub GivesFinals : Sight → Type 0
GivesFinals k = (f : ℕ) (vs : List (List Bit4)) → length ((k.around.callee f).run vs).finals ≡ length (k.around.callee f).formals

-- The bounds of loops are known and their variables aren't written in them, whatever turns they make; nothing writes what is
-- sure, or a bit that the variable of a loop doesn't have.
abbrev pub StatementsConform : Type 0
StatementsConform = (vars : Variables) (s : Stmt) → has_variables vars s ≡ true → (k : Sight) → GivesFinals k → (doing s).bounded k ≡ true → Apart vars k ((doing s).flow k)
    → Conforms vars k (doing s).run ((doing s).flow k)
