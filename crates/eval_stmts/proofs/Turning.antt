-- The turns of a loop.
use Rattle.std.proofs.Common.{◌≡◌, ℕ, zero, suc, Bool, true, false, cond, refl, ap, sym, ◌∙◌, subst}
use Rattle.sv_types.specs.declared.statement.Outcome.TheVariants.{Normal}
use Rattle.sv_types.specs.Surroundings as S
use Rattle.sv_types.specs.Surroundings.{Around, Tally, stopped, onward}
use Rattle.sv_types.specs.Meanings.{Meaning}
use Rattle.sv_types.specs.Runs as R
use Rattle.sv_types.specs.Runs.{Run, State, current, is_true}
use Rattle.sv_types.specs.Efforts as E
use Rattle.sv_types.specs.Efforts.{Step, Effort}
use Rattle.eval_parts.specs.declared.halt.Halt.{Halt}
use Rattle.eval_parts.specs.declared.halt.Halt.TheVariants as H
use Rattle.eval_parts.specs.Answers.{Halts}
use Rattle.eval_parts.specs.Surroundings.{running}
use Rattle.eval_parts.proofs.Efforts.{goes-on, halts-onward}
use Rattle.eval_exprs.specs.declared.held.Scope.{Scope}
use Rattle.eval_stmts.specs.declared.env.Env.{Env}
use Rattle.eval_stmts.specs.Environments.{standing, SameSlots}
use Rattle.eval_stmts.specs.Stepping.{IsAt, Does, Stops, Resumes}
use Rattle.eval_stmts.proofs.Chains as C

-- so many turns at most
abbrev pub turns_step : ℕ → Meaning → Step → Step → Step
turns_step n test body step = record { run = R.turns n test body.run step.run; effort = E.turns n test body step }

-- the body of a turn and what follows it
abbrev next_run : ℕ → Meaning → Step → Step → Run
next_run n test body step c v = R.turns n test body.run step.run c (step.run c v)

abbrev next_effort : ℕ → Meaning → Step → Step → Effort
next_effort n test body step b u v = onward (E.turns n test body step b (step.run b u)) (step.effort b u v)

abbrev pub next_step : ℕ → Meaning → Step → Step → Step
next_step n test body step = record { run = next_run n test body step; effort = next_effort n test body step }

abbrev pub body_step : ℕ → Meaning → Step → Step → Step
body_step n test body step = record {
  run = λ b u. let after = body.run b u in R.after_turn after.outcome (next_run n test body step) b after;
  effort = λ b u v. let after = body.run b u in onward (E.after_turn after.outcome (next_effort n test body step) b after) (body.effort b u v);
}

run-suc : (n : ℕ) (test : Meaning) (body step : Step) (a : Around) (s : State)
    → R.turns (suc n) test body.run step.run a s ≡ R.one_of (is_true test (current a s)) (body_step n test body step).run R.idle a s
unfolding R.turns
run-suc n test body step a s = refl

effort-suc : (n : ℕ) (test : Meaning) (body step : Step) (a : Around) (s : State) (t : Tally)
    → E.turns (suc n) test body step a s t ≡ onward (E.one_of (is_true test (current a s)) (body_step n test body step).effort E.no_effort a s) (test.values (current a s) t)
unfolding E.turns
effort-suc n test body step a s t = refl

run-zero : (test : Meaning) (body step : Step) (a : Around) (s : State) → R.turns zero test body.run step.run a s ≡ s
unfolding R.turns
run-zero test body step a s = refl

effort-zero : (test : Meaning) (body step : Step) (a : Around) (s : State) (t : Tally)
    → E.turns zero test body step a s t ≡ onward (λ u. cond (is_true test (current a s)) (stopped S.Turns u) u) (test.values (current a s) t)
unfolding E.turns
effort-zero test body step a s t = refl

-- a test that is true
pub turn-begins : (sc : Scope) (n : ℕ) (test : Meaning) (b : Bool) (body step : Step) (old new : Env) → SameSlots old new → b ≡ is_true test (standing sc old) → test.values (standing sc old) (running old.budget) ≡ running new.budget → b ≡ true
    → Resumes sc (body_step n test body step) (turns_step (suc n) test body step) old new
turn-begins sc n test b body step old new same is ran holds-true = record {
  holds = C.same-held old new same;
  at = λ a s i.
      let true-is : is_true test (current a s) ≡ true = ap (is_true test) (sym i.now) ∙ sym is ∙ holds-true in
      let st = body_step n test body step in
      record {
        mid = s;
        is = C.same-at sc old new a s Normal same i;
        run = sym (run-suc n test body step a s ∙ ap (λ c. R.one_of c st.run R.idle a s) true-is);
        effort = sym (goes-on (st.effort a s) (test.values (current a s) (running old.budget)) new.budget (ap (λ e. test.values e (running old.budget)) (sym i.now) ∙ ran))
            ∙ sym (effort-suc n test body step a s (running old.budget) ∙ ap (λ c. onward (E.one_of c st.effort E.no_effort a s) (test.values (current a s) (running old.budget))) true-is);
      };
}

-- one that isn't ends the loop
pub turns-end : (sc : Scope) (n : ℕ) (test : Meaning) (b : Bool) (body step : Step) (old new : Env) → SameSlots old new → b ≡ is_true test (standing sc old) → test.values (standing sc old) (running old.budget) ≡ running new.budget → b ≡ false
    → Does sc (turns_step (suc n) test body step) old new Normal
turns-end sc n test b body step old new same is ran is-false = record {
  holds = C.same-held old new same;
  at = λ a s i.
      let false-is : is_true test (current a s) ≡ false = ap (is_true test) (sym i.now) ∙ sym is ∙ is-false in
      let st = body_step n test body step in
      record {
        is = subst (λ u. IsAt sc new a u Normal) (sym (run-suc n test body step a s ∙ ap (λ c. R.one_of c st.run R.idle a s) false-is)) (C.same-at sc old new a s Normal same i);
        effort = effort-suc n test body step a s (running old.budget) ∙ ap (λ c. onward (E.one_of c st.effort E.no_effort a s) (test.values (current a s) (running old.budget))) false-is
            ∙ goes-on (λ t. t) (test.values (current a s) (running old.budget)) new.budget (ap (λ e. test.values e (running old.budget)) (sym i.now) ∙ ran);
      };
}

pub test-stops : (sc : Scope) (n : ℕ) (test : Meaning) (body step : Step) (old : Env) (h : Halt) → Halts h (test.values (standing sc old) (running old.budget)) → Stops sc (turns_step (suc n) test body step) old h
test-stops sc n test body step old h stops = record {
  at = λ a s i.
      subst (Halts h) (sym (effort-suc n test body step a s (running old.budget)))
      (halts-onward h (E.one_of (is_true test (current a s)) (body_step n test body step).effort E.no_effort a s) (test.values (current a s) (running old.budget)) (subst (λ e. Halts h (test.values e (running old.budget))) i.now stops));
}

-- the test after the last turn there may be
pub last-ends : (sc : Scope) (test : Meaning) (b : Bool) (body step : Step) (old new : Env) → SameSlots old new → b ≡ is_true test (standing sc old) → test.values (standing sc old) (running old.budget) ≡ running new.budget → b ≡ false
    → Does sc (turns_step zero test body step) old new Normal
last-ends sc test b body step old new same is ran is-false = record {
  holds = C.same-held old new same;
  at = λ a s i.
      let false-is : is_true test (current a s) ≡ false = ap (is_true test) (sym i.now) ∙ sym is ∙ is-false in
      record {
        is = subst (λ u. IsAt sc new a u Normal) (sym (run-zero test body step a s)) (C.same-at sc old new a s Normal same i);
        effort = effort-zero test body step a s (running old.budget) ∙ ap (λ c. onward (λ u. cond c (stopped S.Turns u) u) (test.values (current a s) (running old.budget))) false-is
            ∙ goes-on (λ t. t) (test.values (current a s) (running old.budget)) new.budget (ap (λ e. test.values e (running old.budget)) (sym i.now) ∙ ran);
      };
}

pub too-many : (sc : Scope) (test : Meaning) (b : Bool) (body step : Step) (old new : Env) → b ≡ is_true test (standing sc old) → test.values (standing sc old) (running old.budget) ≡ running new.budget → b ≡ true
    → Stops sc (turns_step zero test body step) old H.Turns
too-many sc test b body step old new is ran holds-true = record {
  at = λ a s i.
      let true-is : is_true test (current a s) ≡ true = ap (is_true test) (sym i.now) ∙ sym is ∙ holds-true in
      ap (λ (t : Tally). t.stop) (effort-zero test body step a s (running old.budget) ∙ ap (λ c. onward (λ u. cond c (stopped S.Turns u) u) (test.values (current a s) (running old.budget))) true-is
      ∙ goes-on (λ u. stopped S.Turns u) (test.values (current a s) (running old.budget)) new.budget (ap (λ e. test.values e (running old.budget)) (sym i.now) ∙ ran));
}

pub last-stops : (sc : Scope) (test : Meaning) (body step : Step) (old : Env) (h : Halt) → Halts h (test.values (standing sc old) (running old.budget)) → Stops sc (turns_step zero test body step) old h
last-stops sc test body step old h stops = record {
  at = λ a s i.
      subst (Halts h) (sym (effort-zero test body step a s (running old.budget)))
      (halts-onward h (λ u. cond (is_true test (current a s)) (stopped S.Turns u) u) (test.values (current a s) (running old.budget)) (subst (λ e. Halts h (test.values e (running old.budget))) i.now stops));
}

-- a step before the turns
abbrev pub led_by : Step → Step → Step
led_by st rest = record { run = λ a s. rest.run a (st.run a s); effort = λ a s t. onward (rest.effort a (st.run a s)) (st.effort a s t) }

pub leads : (sc : Scope) (st rest : Step) (old new : Env) → Does sc st old new Normal → Resumes sc rest (led_by st rest) old new
leads sc st rest old new d = record {
  holds = d.holds;
  at = λ a s i.
      let ran = d.at a s i in
      record { mid = st.run a s; is = ran.is; run = refl; effort = sym (goes-on (rest.effort a (st.run a s)) (st.effort a s (running old.budget)) new.budget ran.effort) };
}

pub lead-stops : (sc : Scope) (st rest : Step) (old : Env) (h : Halt) → Stops sc st old h → Stops sc (led_by st rest) old h
lead-stops sc st rest old h d = record { at = λ a s i. halts-onward h (rest.effort a (st.run a s)) (st.effort a s (running old.budget)) (d.at a s i) }
