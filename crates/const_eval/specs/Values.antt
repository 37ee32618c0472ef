-- The values of expressions, functions and statements, and why there is none.
use Rattle.std.specs.Prelude.{◌≡◌, ⊤, ℕ, ℤ, List, map, Option, Some, Result, Ok, Err}
use Rattle.b4_core.specs.declared.bit.Bit4.{Bit4}
use Rattle.row_machine.specs.Valuation.{put}
use Rattle.row_machine.specs.Steps.{unchanged}
use Rattle.sv_types.specs.declared.expression.Expr.{Expr}
use Rattle.sv_types.specs.declared.types.Value.{Value}
use Rattle.sv_types.specs.declared.statement.Function.{Function}
use Rattle.sv_types.specs.declared.statement.Outcome.{Outcome}
use Rattle.sv_types.specs.declared.statement.Outcome.TheVariants.{Normal}
use Rattle.sv_types.specs.declared.statement.Stmt.{Stmt}
use Rattle.sv_types.specs.Surroundings.{Around, Tally, Stop}
use Rattle.sv_types.specs.Meanings.{alone, signed}
use Rattle.sv_types.specs.Expressions.{meaning}
use Rattle.sv_types.specs.Functions.{callees, callee_of}
use Rattle.sv_types.specs.Runs.{State}
use Rattle.sv_types.specs.Statements.{doing}
use Rattle.sv_types.specs.Values.{bits, value_of_bits}
use Rattle.eval_parts.specs.declared.halt.Halt.{Halt}
use Rattle.eval_parts.specs.declared.halt.Halt.TheVariants as H
use Rattle.eval_parts.specs.Answers.{Halts}
use Rattle.eval_parts.specs.Insides.{Runs}
use Rattle.eval_parts.specs.Steps.{is_held}
use Rattle.eval_parts.specs.Surroundings.{now_of, running}
use Rattle.eval_stmts.specs.declared.env.Env.{Env}
use Rattle.eval_stmts.specs.Environments.{updates}
use Rattle.const_eval.specs.declared.fails.EvalFail.{EvalFail}
use Rattle.const_eval.specs.declared.fails.EvalFail.TheVariants as F
use Rattle.const_eval.specs.declared.fails.SizeFail.{SizeFail}
use Rattle.const_eval.specs.declared.fails.SizeFail.TheVariants as S
use Rattle.const_eval.specs.Numbers.{IsIn, IsOut, number_if_known}

-- what signals and locals hold, and the functions that can be called
abbrev pub surroundings : List Function → Env → Around
surroundings fs env = record { now = now_of env.signals.items env.locals.items; holds = is_held env.signals.items; callee = callees fs }

abbrev pub FailsBy : Halt → ℕ → EvalFail → Type 0
FailsBy H.Memory at f = f ≡ F.Memory
FailsBy (H.NotHeld n) at f = f ≡ F.NotConstant n
FailsBy H.Turns at f = f ≡ F.Turns at

-- a run that stops for a cause; too many turns or statements stand at what was asked for
abbrev pub Fails : EvalFail → Tally → ℕ → Type 0
Fails F.Memory t at = ⊤
Fails (F.NotConstant n) t at = t.stop ≡ Some (Stop.NotHeld n)
Fails (F.Turns n) t at = (t.stop ≡ Some Stop.Turns) × (n ≡ at)

-- expressions
abbrev pub run_of : Expr → List Function → Env → Tally
run_of e fs env = (meaning e).values (surroundings fs env) (running env.budget)

abbrev pub bits_of : Expr → List Function → Env → List Bit4
bits_of e fs env = alone (meaning e) (surroundings fs env)

abbrev pub AloneGives : Result (List Bit4) Halt → Expr → List Function → Env → Type 0
AloneGives (Ok v) e fs env = (v ≡ bits_of e fs env) × Runs (meaning e) (surroundings fs env) env.budget
AloneGives (Err halt) e fs env = Halts halt (run_of e fs env)

abbrev pub ValueIs : Result Value EvalFail → Expr → List Function → Env → Type 0
ValueIs (Ok v) e fs env = (v ≡ value_of_bits e.of (bits_of e fs env)) × Runs (meaning e) (surroundings fs env) env.budget
ValueIs (Err f) e fs env = Fails f (run_of e fs env) e.spot.at

-- a number, if no bit is x or z
abbrev pub NumberIs : Result (Option ℤ) EvalFail → Expr → List Function → Env → Type 0
NumberIs (Ok n) e fs env = (n ≡ number_if_known (signed (meaning e)) (bits_of e fs env)) × Runs (meaning e) (surroundings fs env) env.budget
NumberIs (Err f) e fs env = Fails f (run_of e fs env) e.spot.at

-- a number in a range, or none
abbrev pub SizeIs : Result ℤ SizeFail → Expr → List Function → Env → ℤ → ℤ → Type 0
SizeIs (Ok n) e fs env low high = (number_if_known (signed (meaning e)) (bits_of e fs env) ≡ Some n) × IsIn n low high × Runs (meaning e) (surroundings fs env) env.budget
SizeIs (Err (S.Eval f)) e fs env low high = Fails f (run_of e fs env) e.spot.at
SizeIs (Err (S.Range at)) e fs env low high = (at ≡ e.spot.at) × IsOut (number_if_known (signed (meaning e)) (bits_of e fs env)) low high × Runs (meaning e) (surroundings fs env) env.budget

-- functions
abbrev pub function_run : Function → List Function → List (List Bit4) → Option ℕ → Tally
function_run f fs vs left = (callee_of (callees fs) f).effort vs (running left)

abbrev pub result_of : Function → List Function → List (List Bit4) → List Bit4
result_of f fs vs = ((callee_of (callees fs) f).run vs).result

pub record Finishes (t : Tally) : Type 0 where
  pub left : Option ℕ
  pub is : t ≡ running left

abbrev pub FunctionGives : Result (List Bit4) Halt → Function → List Function → List (List Bit4) → Option ℕ → Type 0
FunctionGives (Ok v) f fs vs left = (v ≡ result_of f fs vs) × Finishes (function_run f fs vs left)
FunctionGives (Err halt) f fs vs left = Halts halt (function_run f fs vs left)

abbrev pub FunctionIs : Result Value EvalFail → Function → List Value → List Function → Env → Type 0
FunctionIs (Ok v) f args fs env = (v ≡ value_of_bits f.of (result_of f fs (map bits args))) × Finishes (function_run f fs (map bits args) env.budget)
FunctionIs (Err x) f args fs env = Fails x (function_run f fs (map bits args) env.budget) f.spot.at

-- The state in which a statement starts: its updates are behind those that are pending.
abbrev pub starting : Env → State
starting env = record { written = unchanged; pending = updates env.pending.items; outcome = Normal }

abbrev pub ending : Stmt → List Function → Env → State
ending s fs env = (doing s).run (surroundings fs env) (starting env)

abbrev pub stmt_run : Stmt → List Function → Env → Tally
stmt_run s fs env = (doing s).effort (surroundings fs env) (starting env) (running env.budget)

-- A statement that ran to its end: what signals and locals hold is what it wrote over what they held.
pub record Ran (s : Stmt) (fs : List Function) (old new : Env) (o : Outcome) : Type 0 where
  pub outcome : (ending s fs old).outcome ≡ o
  pub now : now_of new.signals.items new.locals.items ≡ put (ending s fs old).written (now_of old.signals.items old.locals.items)
  pub holds : is_held new.signals.items ≡ is_held old.signals.items
  pub pending : updates new.pending.items ≡ (ending s fs old).pending
  pub runs : stmt_run s fs old ≡ running new.budget

abbrev pub StmtRuns : Result Outcome Halt → Stmt → List Function → Env → Env → Type 0
StmtRuns (Ok o) s fs old new = Ran s fs old new o
StmtRuns (Err halt) s fs old new = Halts halt (stmt_run s fs old)

abbrev pub StmtIs : Result Outcome EvalFail → Stmt → List Function → Env → Env → Type 0
StmtIs (Ok o) s fs old new = Ran s fs old new o
StmtIs (Err f) s fs old new = Fails f (stmt_run s fs old) 0
