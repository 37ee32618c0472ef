-- What running a statement does to the environment: from each state of a run for which the old environment stands, it goes to
-- the state for which the new one stands.
use Rattle.std.specs.Prelude.{◌≡◌, ℕ, List, Option, Result, Ok, Err}
use Rattle.sv_types.specs.declared.statement.Outcome.{Outcome}
use Rattle.sv_types.specs.declared.statement.Outcome.TheVariants.{Normal}
use Rattle.sv_types.specs.Surroundings.{Around, counted}
use Rattle.sv_types.specs.Runs.{State, current}
use Rattle.sv_types.specs.Efforts.{Step}
use Rattle.sv_types.specs.declared.statement.Local.{Local}
use Rattle.sv_types.specs.Runs as R
use Rattle.sv_types.specs.Efforts as E
use Rattle.sv_types.specs.Statements.{Doing, runs, marks_of, initial_of}
use Rattle.eval_parts.specs.declared.halt.Halt.{Halt}
use Rattle.eval_parts.specs.Answers.{Halts}
use Rattle.eval_parts.specs.Steps.{is_held}
use Rattle.eval_parts.specs.Surroundings.{running}
use Rattle.eval_exprs.specs.declared.held.Scope.{Scope}
use Rattle.eval_stmts.specs.declared.env.Env.{Env}
use Rattle.eval_stmts.specs.Environments.{standing, updates}

-- an environment that stands for a state of a run
pub record IsAt (sc : Scope) (env : Env) (a : Around) (s : State) (o : Outcome) : Type 0 where
  pub now : standing sc env ≡ current a s
  pub pending : updates env.pending.items ≡ s.pending
  pub outcome : s.outcome ≡ o

abbrev pub step_of : Doing → Step
step_of d = record { run = d.run; effort = d.effort }

-- a step that ran to its end
pub record Ran (sc : Scope) (st : Step) (a : Around) (s : State) (old new : Env) (o : Outcome) : Type 0 where
  pub is : IsAt sc new a (st.run a s) o
  pub effort : st.effort a s (running old.budget) ≡ running new.budget

pub record Does (sc : Scope) (st : Step) (old new : Env) (o : Outcome) : Type 0 where
  pub holds : is_held new.signals.items ≡ is_held old.signals.items
  pub at : (a : Around) (s : State) → IsAt sc old a s Normal → Ran sc st a s old new o

-- one that stops
pub record Stops (sc : Scope) (st : Step) (old : Env) (h : Halt) : Type 0 where
  pub at : (a : Around) (s : State) → IsAt sc old a s Normal → Halts h (st.effort a s (running old.budget))

abbrev pub StepGives : Result Outcome Halt → Scope → Step → Env → Env → Type 0
StepGives (Ok o) sc st old new = Does sc st old new o
StepGives (Err h) sc st old new = Stops sc st old h

-- what is left of a step on the way
pub record Midway (sc : Scope) (rest all : Step) (a : Around) (s : State) (start cur : Env) : Type 0 where
  pub mid : State
  pub is : IsAt sc cur a mid Normal
  pub run : rest.run a mid ≡ all.run a s
  pub effort : rest.effort a mid (running cur.budget) ≡ all.effort a s (running start.budget)

pub record Resumes (sc : Scope) (rest all : Step) (start cur : Env) : Type 0 where
  pub holds : is_held cur.signals.items ≡ is_held start.signals.items
  pub at : (a : Around) (s : State) → IsAt sc start a s Normal → Midway sc rest all a s start cur

-- one more statement counts
abbrev pub Counts : {T : Type 0} → Result T Halt → Option ℕ → Option ℕ → Type 0
Counts (Ok x) old new = counted (running old) ≡ running new
Counts (Err h) old new = Halts h (counted (running old))

-- a step after which the run goes on
abbrev pub GoesOn : {T : Type 0} → Result T Halt → Scope → Step → Env → Env → Type 0
GoesOn (Ok x) sc st old new = Does sc st old new Normal
GoesOn (Err h) sc st old new = Stops sc st old h

-- the first part of a step, behind which the rest is left
abbrev pub Leaves : {T : Type 0} → Result T Halt → Scope → Step → Step → Env → Env → Type 0
Leaves (Ok x) sc rest all old new = Resumes sc rest all old new
Leaves (Err h) sc rest all old new = Stops sc all old h

-- one after the other
abbrev pub in_turn : List Step → Step
in_turn sts = record { run = R.in_turn (runs sts); effort = E.in_turn sts }

-- one of the statements that are counted
abbrev pub counted_step : Step → Step
counted_step st = record { run = st.run; effort = E.statement st.effort }

-- a local starts
abbrev pub start_step : Local → Step
start_step l = record { run = R.start l.number (marks_of l) (initial_of l); effort = E.start (initial_of l) }
