-- How the steps of statements follow one another.
use Rattle.std.proofs.Common.{◌≡◌, ℕ, ◌-◌, Result, Err, refl, ap, sym, ◌∙◌, subst}
use Rattle.sv_types.specs.declared.statement.Outcome.{Outcome}
use Rattle.sv_types.specs.declared.statement.Outcome.TheVariants.{Normal, Continue}
use Rattle.sv_types.specs.Layouts.{Layout}
use Rattle.sv_types.specs.Expressions.{meaning}
use Rattle.sv_types.specs.Runs as R
use Rattle.sv_types.specs.Runs.{is_normal}
use Rattle.sv_types.specs.Efforts as E
use Rattle.sv_types.specs.Efforts.{Step}
use Rattle.sv_types.proofs.Heads.{heads}
use Rattle.eval_parts.specs.declared.halt.Halt.{Halt}
use Rattle.eval_parts.specs.Surroundings.{running}
use Rattle.eval_exprs.specs.declared.held.Scope.{Scope}
use Rattle.eval_stmts.specs.declared.controls.Control.{Control}
use Rattle.eval_stmts.specs.declared.env.Env.{Env}
use Rattle.eval_stmts.specs.Controls.{loop_step, variable_step}
use Rattle.eval_stmts.specs.Stepping.{Does, Stops, StepGives, Resumes}
use Rattle.eval_parts.proofs.Efforts.{goes-on}
use Rattle.eval_stmts.proofs.Chains as C
use Rattle.eval_stmts.proofs.Turning as T
use Rattle.eval_stmts.proofs.Turning.{turns_step, led_by}
use Rattle.eval_runs.specs.Forms.{before, followed}

-- what a `?` hands on
pub handed-on : (r : Result Outcome Halt) (sc : Scope) (st : Step) (old new : Env) (h : Halt) → r ≡ Err h → Stops sc st old h → StepGives r sc st old new
handed-on r sc st old new h is stops = subst (λ x. StepGives x sc st old new) (sym is) stops

-- a loop is its turns, behind its variable's first value
pub loop-led : (c : Control) (body : Step) → led_by (variable_step c c.first.now) (turns_step R.most_turns (meaning c.test.now) body (variable_step c c.step.now)) ≡ loop_step c body
loop-led c body =
    ap (λ (l : Layout). led_by (E.set_variable_step c.local l.two_state (meaning c.first.now)) (turns_step R.most_turns (meaning c.test.now) body (E.set_variable_step c.local l.two_state (meaning c.step.now))))
    (sym (heads c.first.now).kind)

-- a body that goes on
pub goes-next : (sc : Scope) (body next : Step) (old new : Env) → Does sc body old new Normal → Resumes sc next (followed body next) old new
goes-next sc body next old new d = record {
  holds = d.holds;
  at = λ a s i.
      let ran = d.at a s i in
      let u = body.run a s in
      record {
        mid = u;
        is = ran.is;
        run = sym (ap (λ o. R.after_turn o next.run a u) ran.is.outcome);
        effort = sym (goes-on (E.after_turn u.outcome next.effort a u) (body.effort a s (running old.budget)) new.budget ran.effort
            ∙ ap (λ o. E.after_turn o next.effort a u (running new.budget)) ran.is.outcome);
      };
}

pub continues : (sc : Scope) (body next : Step) (old new : Env) → Does sc body old new Continue → Resumes sc next (followed body next) old new
continues sc body next old new d = record {
  holds = d.holds;
  at = λ a s i.
      let ran = d.at a s i in
      let u = body.run a s in
      record {
        mid = record u { outcome = Normal };
        is = record { now = ran.is.now; pending = ran.is.pending; outcome = refl };
        run = sym (ap (λ o. R.after_turn o next.run a u) ran.is.outcome);
        effort = sym (goes-on (E.after_turn u.outcome next.effort a u) (body.effort a s (running old.budget)) new.budget ran.effort
            ∙ ap (λ o. E.after_turn o next.effort a u (running new.budget)) ran.is.outcome);
      };
}

-- a turn goes on behind its step
pub stepped : (sc : Scope) (body st rest : Step) (old mid new : Env) → Resumes sc (before st rest) (followed body (before st rest)) old mid → Does sc st mid new Normal → Resumes sc rest (followed body (before st rest)) old new
stepped sc body st rest old mid new m d = C.onto sc rest (before st rest) (followed body (before st rest)) old mid new m (T.leads sc st rest mid new d)

pub step-stops : (sc : Scope) (body st rest : Step) (old mid new : Env) (h : Halt) → Resumes sc (before st rest) (followed body (before st rest)) old mid → Stops sc st mid h → Stops sc (followed body (before st rest)) old h
step-stops sc body st rest old mid new h m d = C.resumed (Err h) sc (before st rest) (followed body (before st rest)) old mid new m (T.lead-stops sc st rest mid h d)

-- a loop on the way
abbrev pub rest_of : Control → Step → ℕ → Step
rest_of c body n = T.turns_step n (meaning c.test.now) body (variable_step c c.step.now)

pub loop-here : (sc : Scope) (c : Control) (body : Step) (i n : ℕ) (start first cur : Env) → 65536 - i ≡ n → Does sc (variable_step c c.first.now) start first Normal → Resumes sc (rest_of c body (65536 - i)) (rest_of c body 65536) first cur
    → Resumes sc (rest_of c body n) (loop_step c body) start cur
loop-here sc c body i n start first cur is d left =
    subst (λ all. Resumes sc (rest_of c body n) all start cur) (loop-led c body)
    (C.onto sc (rest_of c body n) (rest_of c body 65536) (before (variable_step c c.first.now) (rest_of c body 65536)) start first cur (T.leads sc (variable_step c c.first.now) (rest_of c body 65536) start first d)
    (subst (λ k. Resumes sc (rest_of c body k) (rest_of c body 65536) first cur) is left))
