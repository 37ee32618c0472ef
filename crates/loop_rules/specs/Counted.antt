-- Loops whose bounds are known.
use Rattle.std.specs.Prelude.{◌≡◌, ⊤, ℕ, Bool, true, false, List, Option, Result, Ok, Err}
use Rattle.sv_types.specs.declared.statement.Stmt.{Stmt}
use Rattle.sv_types.specs.Surroundings.{Sight}
use Rattle.eval_forms.specs.Callees.{formals_in}
use Rattle.eval_stmts.specs.declared.controls.Control.{Control}
use Rattle.expr_flows.specs.declared.known.Known.{Known}
use Rattle.least_breaks.specs.Least.{least_from, with_token}
use Rattle.design_breaks.specs.Unrolling as U
use Rattle.design_breaks.specs.Actions as A
use Rattle.design_breaks.specs.Actions.{actions}
use Rattle.loop_laws.specs.Walks.{Formals}
use Rattle.bound_values.specs.Looks.{SureAs}

-- the control of a loop whose `for` is this token
abbrev pub control_at : ℕ → Control → U.Control
control_at at c = record { at = at; variable = c.local; first = c.first.now; test = c.test.now; step = c.step.now }

abbrev pub CountedGives : {E : Type 0} → Result Bool E → Known → Control → Stmt → Type 0
CountedGives (Ok b) k c body = (at : ℕ) (h : Sight) → SureAs k.variables.now h → b ≡ A.is_counted (control_at at c) (actions body) (formals_in k.functions.now) h
CountedGives (Err x) k c body = ⊤

-- the loops in a statement that aren't
abbrev pub unbounded_in : Formals → Sight → Stmt → List ℕ
unbounded_in fs h s = (actions s).unbounded fs h

-- the least of a token and those of these loops
abbrev pub LeastGives : {E : Type 0} → Result (Option ℕ) E → Known → Option ℕ → (Sight → List ℕ) → Type 0
LeastGives (Ok o) k least tokens = (h : Sight) → SureAs k.variables.now h → o ≡ least_from least (tokens h)
LeastGives (Err x) k least tokens = ⊤

abbrev pub unless_counted : Bool → Option ℕ → ℕ → Option ℕ
unless_counted true least at = least
unless_counted false least at = with_token least at
