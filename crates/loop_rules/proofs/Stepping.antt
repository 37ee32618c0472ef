-- What is known in the turns of a loop.
use Rattle.std.proofs.Common.{◌≡◌, ℕ, zero, suc, Bool, true, false, List, ◌∷◌, Option, Some, None, Result, Ok, Err, refl, ap, sym, ◌∙◌, subst}
use Rattle.b4_core.specs.declared.bit.Bit4.{Bit4}
use Rattle.sv_types.specs.declared.expression.Expr.{Expr}
use Rattle.sv_types.specs.declared.statement.Function.{Function}
use Rattle.sv_types.specs.Layouts.{Layout, layout}
use Rattle.sv_types.specs.Surroundings.{Around, Sight}
use Rattle.sv_types.specs.Operators.{assigned_to}
use Rattle.sv_types.specs.Runs.{is_true}
use Rattle.sv_types.specs.Expressions.{meaning}
use Rattle.sv_types.specs.Flows.{knowing}
use Rattle.sv_types.proofs.Heads.{heads}
use Rattle.eval_stmts.specs.declared.controls.Control.{Control}
use Rattle.expr_flows.specs.declared.known.Known.{Known}
use Rattle.expr_flows.specs.declared.known.Variable.{Variable}
use Rattle.expr_flows.specs.Known.{sight_in}
use Rattle.part_flows.specs.Locals.{LocalHolds}
use Rattle.stmt_flows.specs.Turns.{IsInside, variable_of, marks_of_control}
use Rattle.stmt_flows.proofs.Turning.{holds-first, holds-next, control-long}
use Rattle.design_breaks.specs.Indices.{unheld}
use Rattle.design_breaks.specs.Unrolling as U
use Rattle.design_breaks.specs.Unrolling.{too_long_at, lasting}
use Rattle.loop_laws.proofs.Turns as L
use Rattle.loop_rules.specs.Counted.{control_at}
use Rattle.loop_rules.specs.declared.turns.Turn.TheVariants as R
use Rattle.loop_rules.specs.Turns.{StepIs, TurnIs}

value-at : (c : Control) (e : Expr) (a : Around) (bits : List Bit4) → bits ≡ assigned_to (layout c.first.now.of).two_state (meaning e) a → bits ≡ assigned_to (marks_of_control c) (meaning e) a
value-at c e a bits is = is ∙ ap (λ (l : Layout). assigned_to l.two_state (meaning e) a) (sym (heads c.first.now).kind)

pub entered-at : (at : ℕ) (fs : List Function) (c : Control) (v : Variable) (vs ws : List Variable) (bits : List Bit4) (old new : List (Option (List Bit4))) → v ≡ variable_of c → vs ≡ v ∷ ws → LocalHolds v bits old new
    → bits ≡ assigned_to (layout c.first.now.of).two_state (meaning c.first.now) (unheld (sight_in fs old ws).around) → sight_in fs new vs ≡ U.given (control_at at c) c.first.now (sight_in fs old ws)
entered-at at fs c v vs ws bits old new is list held value =
    holds-first fs (variable_of c) vs ws (marks_of_control c) bits old new (control-long c) (list ∙ ap (λ x. x ∷ ws) is) (subst (λ x. LocalHolds x bits old new) is held)
    ∙ ap (λ bs. knowing c.local (marks_of_control c) bs (sight_in fs old ws)) (value-at c c.first.now (unheld (sight_in fs old ws).around) bits value)

pub stepped-at : (at : ℕ) (fs : List Function) (c : Control) (v : Variable) (vs : List Variable) (bits : List Bit4) (old new : List (Option (List Bit4))) → v ≡ variable_of c → IsInside (variable_of c) vs → LocalHolds v bits old new
    → bits ≡ assigned_to (layout c.first.now.of).two_state (meaning c.step.now) (unheld (sight_in fs old vs).around) → sight_in fs new vs ≡ U.given (control_at at c) c.step.now (sight_in fs old vs)
stepped-at at fs c v vs bits old new is inside held value =
    holds-next fs (variable_of c) vs (marks_of_control c) bits old new (control-long c) inside (subst (λ x. LocalHolds x bits old new) is held)
    ∙ ap (λ bs. knowing c.local (marks_of_control c) bs (sight_in fs old vs)) (value-at c c.step.now (unheld (sight_in fs old vs).around) bits value)

-- turns
pub turn-long : (c : Control) (h j : Sight) (long : ℕ) → too_long_at c.test.now h ≡ Some long → TurnIs (R.Long long) c h j
turn-long c h j long is at n = L.test-long (suc n) (control_at at c) h long is

pub turn-stops : (c : Control) (h j : Sight) → too_long_at c.test.now h ≡ None → is_true (meaning c.test.now) (unheld h.around) ≡ false → TurnIs R.Stops c h j
turn-stops c h j is stops at n = L.test-stops (suc n) (control_at at c) h is stops

pub turn-step : (c : Control) (h j : Sight) (long : ℕ) → too_long_at c.test.now h ≡ None → is_true (meaning c.test.now) (unheld h.around) ≡ true → StepIs (Some long) c h j → TurnIs (R.Long long) c h j
turn-step c h j long is goes step at n = L.step-long n (control_at at c) h long is goes step

pub turn-goes : (c : Control) (h j : Sight) → too_long_at c.test.now h ≡ None → is_true (meaning c.test.now) (unheld h.around) ≡ true → StepIs None c h j → TurnIs R.Goes c h j
turn-goes c h j is goes step at n = L.step-on n (control_at at c) h is goes step.0 ∙ sym (ap (lasting n (control_at at c)) (step.1 at))

pub last-long : (c : Control) (at : ℕ) (h : Sight) (long : ℕ) → too_long_at c.test.now h ≡ Some long → Some long ≡ lasting 0 (control_at at c) h
last-long c at h long is = sym (L.test-long 0 (control_at at c) h long is)

pub last-stops : (c : Control) (at : ℕ) (h : Sight) → too_long_at c.test.now h ≡ None → is_true (meaning c.test.now) (unheld h.around) ≡ false → None ≡ lasting 0 (control_at at c) h
last-stops c at h is stops = sym (L.test-stops 0 (control_at at c) h is stops)

pub last-goes : (c : Control) (at : ℕ) (h : Sight) → too_long_at c.test.now h ≡ None → is_true (meaning c.test.now) (unheld h.around) ≡ true → Some at ≡ lasting 0 (control_at at c) h
last-goes c at h is goes = sym (L.never-ends (control_at at c) h is goes)

pub ruleset bare_turns = (turn-long, turn-stops, turn-step, turn-goes)

pub ruleset last_turns = (last-long, last-stops, last-goes)
