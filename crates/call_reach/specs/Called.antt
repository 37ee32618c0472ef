-- Functions that are called.
use Rattle.std.specs.Prelude.{◌≡◌, ℕ, ◌<◌, Bool, false, List, length, slice_index_or}
use Rattle.sv_types.specs.declared.design.Design.{Design}
use Rattle.sv_types.specs.declared.design.Process.{Process}
use Rattle.sv_types.specs.declared.statement.Function.{Function}
use Rattle.sv_types.specs.declared.statement.Stmt.{Stmt}
use Rattle.design_breaks.specs.Actions.{actions}
use Rattle.design_breaks.specs.Breaks as B

-- the places of the functions that a statement calls
abbrev pub calls_of : Stmt → List ℕ
calls_of s = (actions s).said.calls

abbrev pub process_calls : Process → List ℕ
process_calls p = calls_of p.body

abbrev pub function_calls : Function → List ℕ
function_calls f = calls_of f.body

-- of each function whether it is called
pub record AreCalled (d : Design) (marks : List Bool) : Type 0 where
  pub count : length marks ≡ length d.functions
  pub each : (n : ℕ) → n < length d.functions → slice_index_or marks n false ≡ B.is_called d (length d.functions) n
