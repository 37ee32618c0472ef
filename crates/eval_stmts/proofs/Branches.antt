-- Statements form by form, from what their parts did.
use Rattle.std.proofs.Common.{◌≡◌, Bool, true, false, refl, ap, sym, ◌∙◌, subst}
use Rattle.sv_types.specs.declared.statement.Outcome.{Outcome}
use Rattle.sv_types.specs.declared.statement.Outcome.TheVariants.{Normal}
use Rattle.sv_types.specs.Surroundings.{Around, Tally, counted, onward}
use Rattle.sv_types.specs.Meanings.{Meaning}
use Rattle.sv_types.specs.Runs as R
use Rattle.sv_types.specs.Runs.{State, current, is_true}
use Rattle.sv_types.specs.Efforts as E
use Rattle.sv_types.specs.Efforts.{Step, Effort}
use Rattle.eval_parts.specs.declared.halt.Halt.{Halt}
use Rattle.eval_parts.specs.Answers.{Halts}
use Rattle.eval_parts.specs.Surroundings.{running}
use Rattle.eval_parts.proofs.Efforts.{goes-on, halts-onward}
use Rattle.eval_exprs.specs.declared.held.Scope.{Scope}
use Rattle.eval_stmts.specs.declared.env.Env.{Env}
use Rattle.eval_stmts.specs.Environments.{standing, SameSlots}
use Rattle.eval_stmts.specs.Stepping.{Does, Stops, Resumes, counted_step}
use Rattle.eval_stmts.proofs.Chains as C

-- one more statement counts
pub counted-on : (sc : Scope) (st : Step) (old new : Env) → SameSlots old new → counted (running old.budget) ≡ running new.budget → Resumes sc st (counted_step st) old new
counted-on sc st old new same is = C.after sc (λ a s t. counted t) st old new same (λ a s i. is)

pub counted-stops : (sc : Scope) (st : Step) (old : Env) (h : Halt) → Halts h (counted (running old.budget)) → Stops sc (counted_step st) old h
counted-stops sc st old h stops = C.before-stops sc (λ a s t. counted t) st old h (λ a s i. stops)

-- a jump
pub jumps : (sc : Scope) (o : Outcome) (env : Env) → Does sc (record { run = R.jump o; effort = E.no_effort }) env env o
jumps sc o env = record { holds = refl; at = λ a s i. record { is = record { now = i.now; pending = i.pending; outcome = refl }; effort = refl } }

-- nothing
pub idles : (sc : Scope) (env : Env) → Does sc (record { run = R.idle; effort = E.no_effort }) env env Normal
idles sc env = record { holds = refl; at = λ a s i. record { is = i; effort = refl } }

-- one of two steps, by a test that takes some effort
abbrev pub tested_step : (Around → Bool) → (Around → Tally → Tally) → Step → Step → Step
tested_step test values body other = record {
  run = λ a s. R.one_of (test (current a s)) body.run other.run a s;
  effort = λ a s t. onward (E.one_of (test (current a s)) body.effort other.effort a s) (values (current a s) t);
}

abbrev pub chosen : Bool → Step → Step → Step
chosen b body other = record { run = R.one_of b body.run other.run; effort = E.one_of b body.effort other.effort }

tested : (sc : Scope) (test : Around → Bool) (values : Around → Tally → Tally) (b : Bool) (body other : Step) (old new : Env) → SameSlots old new → b ≡ test (standing sc old)
    → values (standing sc old) (running old.budget) ≡ running new.budget → Resumes sc (chosen b body other) (tested_step test values body other) old new
tested sc test values b body other old new same is ran = record {
  holds = C.same-held old new same;
  at = λ a s i.
      let test-is : test (current a s) ≡ b = ap test (sym i.now) ∙ sym is in
      record {
        mid = s;
        is = C.same-at sc old new a s Normal same i;
        run = sym (ap (λ c. R.one_of c body.run other.run a s) test-is);
        effort = sym (goes-on (E.one_of b body.effort other.effort a s) (values (current a s) (running old.budget)) new.budget (ap (λ e. values e (running old.budget)) (sym i.now) ∙ ran))
            ∙ sym (ap (λ c. onward (E.one_of c body.effort other.effort a s) (values (current a s) (running old.budget))) test-is);
      };
}

pub tested-true : (sc : Scope) (test : Around → Bool) (values : Around → Tally → Tally) (b : Bool) (body other : Step) (old new : Env) → SameSlots old new → b ≡ test (standing sc old)
    → values (standing sc old) (running old.budget) ≡ running new.budget → b ≡ true → Resumes sc body (tested_step test values body other) old new
tested-true sc test values b body other old new same is ran holds-true =
    subst (λ c. Resumes sc (chosen c body other) (tested_step test values body other) old new) holds-true (tested sc test values b body other old new same is ran)

pub tested-false : (sc : Scope) (test : Around → Bool) (values : Around → Tally → Tally) (b : Bool) (body other : Step) (old new : Env) → SameSlots old new → b ≡ test (standing sc old)
    → values (standing sc old) (running old.budget) ≡ running new.budget → b ≡ false → Resumes sc other (tested_step test values body other) old new
tested-false sc test values b body other old new same is ran is-false =
    subst (λ c. Resumes sc (chosen c body other) (tested_step test values body other) old new) is-false (tested sc test values b body other old new same is ran)

pub test-stops : (sc : Scope) (test : Around → Bool) (values : Around → Tally → Tally) (body other : Step) (old : Env) (h : Halt) → Halts h (values (standing sc old) (running old.budget)) → Stops sc (tested_step test values body other) old h
test-stops sc test values body other old h stops = record {
  at = λ a s i. halts-onward h (E.one_of (test (current a s)) body.effort other.effort a s) (values (current a s) (running old.budget)) (subst (λ e. Halts h (values e (running old.budget))) i.now stops);
}

-- a branch by a condition
abbrev pub branch_step : Meaning → Step → Step → Step
branch_step on body other = tested_step (is_true on) on.values body other
