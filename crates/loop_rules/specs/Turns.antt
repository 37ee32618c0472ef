-- The turns of a loop, as the code has them.
use Rattle.std.specs.Prelude.{◌≡◌, ⊤, ℕ, suc, true, false, List, Option, Some, None, Result, Ok, Err}
use Rattle.b4_core.specs.declared.bit.Bit4.{Bit4}
use Rattle.sv_types.specs.Surroundings.{Sight}
use Rattle.sv_types.specs.Runs.{is_true}
use Rattle.sv_types.specs.Expressions.{meaning}
use Rattle.eval_stmts.specs.declared.controls.Control.{Control}
use Rattle.expr_flows.specs.declared.known.Known.{Known}
use Rattle.expr_flows.specs.Known.{sight, sight_in}
use Rattle.stmt_flows.specs.Turns.{IsInside, variable_of}
use Rattle.design_breaks.specs.Indices.{unheld}
use Rattle.design_breaks.specs.Unrolling as U
use Rattle.design_breaks.specs.Unrolling.{too_long_at, lasting}
use Rattle.bound_values.specs.declared.bounds.Test.{Test}
use Rattle.bound_values.specs.declared.bounds.Test.TheVariants as T
use Rattle.loop_rules.specs.Counted.{control_at}
use Rattle.loop_rules.specs.declared.turns.Inside.{Inside}
use Rattle.loop_rules.specs.declared.turns.Turn.{Turn}
use Rattle.loop_rules.specs.declared.turns.Turn.TheVariants as R

-- what is known in the first turn
pub record IsEntered (k : Known) (c : Control) (i : Inside) : Type 0 where
  pub sees : (at : ℕ) → sight_in k.functions.now i.locals.items i.variables.items ≡ U.given (control_at at c) c.first.now (sight k)
  pub inside : IsInside (variable_of c) i.variables.items

-- the next value
abbrev pub StepIs : Option ℕ → Control → Sight → Sight → Type 0
StepIs None c h j = (too_long_at c.step.now h ≡ None) × ((at : ℕ) → j ≡ U.given (control_at at c) c.step.now h)
StepIs (Some at) c h j = too_long_at c.step.now h ≡ Some at

abbrev pub StepGives : {E : Type 0} → Result (Option ℕ) E → Control → Sight → Sight → Type 0
StepGives (Ok o) c h j = StepIs o c h j
StepGives (Err x) c h j = ⊤

abbrev pub TestGoesAs : Test → Control → Sight → Type 0
TestGoesAs (T.Long at) c h = too_long_at c.test.now h ≡ Some at
TestGoesAs T.Stops c h = (too_long_at c.test.now h ≡ None) × (is_true (meaning c.test.now) (unheld h.around) ≡ false)
TestGoesAs T.Goes c h = (too_long_at c.test.now h ≡ None) × (is_true (meaning c.test.now) (unheld h.around) ≡ true)

abbrev pub TestGoes : {E : Type 0} → Result Test E → Control → Sight → Type 0
TestGoes (Ok t) c h = TestGoesAs t c h
TestGoes (Err x) c h = ⊤

-- a turn, and whether the loop ends within some more
abbrev pub TurnIs : Turn → Control → Sight → Sight → Type 0
TurnIs (R.Long long) c h j = (at n : ℕ) → lasting (suc n) (control_at at c) h ≡ Some long
TurnIs R.Stops c h j = (at n : ℕ) → lasting (suc n) (control_at at c) h ≡ None
TurnIs R.Goes c h j = (at n : ℕ) → lasting (suc n) (control_at at c) h ≡ lasting n (control_at at c) j

abbrev pub TurnGives : {E : Type 0} → Result Turn E → Control → Sight → Sight → Type 0
TurnGives (Ok t) c h j = TurnIs t c h j
TurnGives (Err x) c h j = ⊤

abbrev pub LastingGives : {E : Type 0} → Result (Option ℕ) E → U.Control → ℕ → Sight → Type 0
LastingGives (Ok o) c n h = o ≡ lasting n c h
LastingGives (Err x) c n h = ⊤
