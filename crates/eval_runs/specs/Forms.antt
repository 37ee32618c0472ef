-- Statements as steps, form by form.
use Rattle.std.specs.Prelude.{List, ◌++◌, map, Option, Some, None, Result, Ok, Err}
use Rattle.b4_core.specs.declared.bit.Bit4.{Bit4}
use Rattle.sv_types.specs.declared.statement.Local.{Local}
use Rattle.sv_types.specs.declared.statement.Stmt.{Stmt}
use Rattle.sv_types.specs.declared.statement.Outcome.{Outcome}
use Rattle.sv_types.specs.Surroundings.{Parameter, onward}
use Rattle.sv_types.specs.Meanings.{Meaning}
use Rattle.sv_types.specs.Runs as R
use Rattle.sv_types.specs.Runs.{current}
use Rattle.sv_types.specs.Efforts as E
use Rattle.sv_types.specs.Efforts.{Step}
use Rattle.sv_types.specs.Statements.{doing, starts, steps}
use Rattle.eval_parts.specs.declared.halt.Halt.{Halt}
use Rattle.eval_exprs.specs.declared.held.Scope.{Scope}
use Rattle.eval_stmts.specs.declared.env.Env.{Env}
use Rattle.eval_stmts.specs.Stepping.{Does, Stops, Resumes, in_turn}

-- `break`, `continue` and `return`
abbrev pub jump_step : Outcome → Step
jump_step o = record { run = R.jump o; effort = E.no_effort }

-- an `if`
abbrev pub branch_step : Meaning → Step → Step → Step
branch_step on body other = record { run = R.branch on body.run other.run; effort = E.branch on body.effort other.effort }

-- statements in order
abbrev pub body_step : List Stmt → Step
body_step ss = in_turn (steps (map doing ss))

-- and in a scope of locals
abbrev pub scope_step : List Local → List Stmt → Step
scope_step ls ss = in_turn (starts ls ++ steps (map doing ss))

-- a step that doesn't count
abbrev pub uncounted_step : Step → Step
uncounted_step st = record { run = st.run; effort = E.uncounted st.effort }

-- the last value of a formal is assigned to its actual, always and by its way
abbrev pub copy_step : Parameter → Meaning → List Bit4 → Step
copy_step p m v = record { run = R.copy_out p m v; effort = λ a s t. m.places (current a s) t }

abbrev pub hand_step : Parameter → Meaning → List Bit4 → Step
hand_step p m v = record { run = R.copied_out p.way (R.copy_out p m v); effort = λ a s t. E.places_out p.way m (current a s) t }

-- one after the other, where the first always ends normally
abbrev pub before : Step → Step → Step
before st rest = record { run = λ a s. rest.run a (st.run a s); effort = λ a s t. onward (rest.effort a (st.run a s)) (st.effort a s t) }

-- the body of a turn and what follows it
abbrev pub followed : Step → Step → Step
followed body next = record {
  run = λ a s. let after = body.run a s in R.after_turn after.outcome next.run a after;
  effort = λ a s t. let after = body.run a s in onward (E.after_turn after.outcome next.effort a after) (body.effort a s t);
}

-- A turn whose test was true: it goes on with what follows the step, or ends the loop.
abbrev pub TurnGives : Result (Option Outcome) Halt → Scope → Step → Step → Env → Env → Type 0
TurnGives (Ok None) sc body st old new = (rest : Step) → Resumes sc rest (followed body (before st rest)) old new
TurnGives (Ok (Some o)) sc body st old new = (next : Step) → Does sc (followed body next) old new o
TurnGives (Err h) sc body st old new = (rest : Step) → Stops sc (followed body (before st rest)) old h
