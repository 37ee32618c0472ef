-- How steps follow one another.
use Rattle.std.proofs.Common.{◌≡◌, true, false, List, [], ◌∷◌, Result, Ok, Err, refl, ap, sym, ◌∙◌, subst}
use Rattle.sv_types.specs.declared.statement.Outcome.{Outcome}
use Rattle.sv_types.specs.declared.statement.Outcome.TheVariants.{Normal, Break, Continue, Return}
use Rattle.sv_types.specs.Surroundings.{Around, Tally, onward}
use Rattle.sv_types.specs.Runs as R
use Rattle.sv_types.specs.Runs.{Run, State, current, is_normal}
use Rattle.sv_types.specs.Efforts as E
use Rattle.sv_types.specs.Efforts.{Step, Effort}
use Rattle.sv_types.specs.Statements.{runs}
use Rattle.eval_parts.specs.declared.halt.Halt.{Halt}
use Rattle.eval_parts.specs.Answers.{Halts}
use Rattle.eval_parts.specs.Steps.{is_held}
use Rattle.eval_parts.specs.Surroundings.{now_of, running}
use Rattle.eval_parts.proofs.Efforts.{goes-on, halts-onward}
use Rattle.eval_exprs.specs.declared.held.Scope.{Scope}
use Rattle.eval_exprs.specs.Held.{callees_in}
use Rattle.eval_stmts.specs.declared.env.Env.{Env}
use Rattle.eval_stmts.specs.Environments.{standing, updates, SameSlots}
use Rattle.eval_stmts.specs.Stepping.{IsAt, Does, Stops, StepGives, Resumes, in_turn}

-- what is left answers for all
pub resumed : (r : Result Outcome Halt) (sc : Scope) (rest all : Step) (start cur new : Env) → Resumes sc rest all start cur → StepGives r sc rest cur new → StepGives r sc all start new
resumed (Ok o) sc rest all start cur new m d = record {
  holds = d.holds ∙ m.holds;
  at = λ a s i.
      let here = m.at a s i in
      let ran = d.at a here.mid here.is in
      record { is = subst (λ u. IsAt sc new a u o) here.run ran.is; effort = sym here.effort ∙ ran.effort };
}
resumed (Err h) sc rest all start cur new m d = record { at = λ a s i. let here = m.at a s i in subst (Halts h) here.effort (d.at a here.mid here.is) }

pub onto : (sc : Scope) (rest mid all : Step) (start one two : Env) → Resumes sc mid all start one → Resumes sc rest mid one two → Resumes sc rest all start two
onto sc rest mid all start one two m n = record {
  holds = n.holds ∙ m.holds;
  at = λ a s i.
      let here = m.at a s i in
      let there = n.at a here.mid here.is in
      record { mid = there.mid; is = there.is; run = there.run ∙ here.run; effort = there.effort ∙ here.effort };
}

pub begins : (sc : Scope) (st : Step) (env : Env) → Resumes sc st st env env
begins sc st env = record { holds = refl; at = λ a s i. record { mid = s; is = i; run = refl; effort = refl } }

-- where slots and updates are the same
pub stands : (sc : Scope) (old new : Env) → SameSlots old new → standing sc new ≡ standing sc old
stands sc old new same =
    let by : List _ → List _ → Around = λ ss ls. record { now = now_of ss ls; holds = is_held ss; callee = callees_in sc } in
    ap (λ ss. by ss new.locals.items) same.signals ∙ ap (by old.signals.items) same.locals

pub same-at : (sc : Scope) (old new : Env) (a : Around) (s : State) (o : Outcome) → SameSlots old new → IsAt sc old a s o → IsAt sc new a s o
same-at sc old new a s o same i = record { now = stands sc old new same ∙ i.now; pending = ap updates same.pending ∙ i.pending; outcome = i.outcome }

pub same-held : (old new : Env) → SameSlots old new → is_held new.signals.items ≡ is_held old.signals.items
same-held old new same = ap is_held same.signals

pub not-moved : (env : Env) → SameSlots env env
not-moved env = record { signals = refl; locals = refl; pending = refl }

-- a step after nothing but effort
abbrev pub after_effort : (Around → State → Tally → Tally) → Step → Step
after_effort f st = record { run = st.run; effort = λ a s t. onward (st.effort a s) (f a s t) }

pub after : (sc : Scope) (f : Around → State → Tally → Tally) (st : Step) (old new : Env) → SameSlots old new → ((a : Around) (s : State) → IsAt sc old a s Normal → f a s (running old.budget) ≡ running new.budget)
    → Resumes sc st (after_effort f st) old new
after sc f st old new same ran = record {
  holds = same-held old new same;
  at = λ a s i. record { mid = s; is = same-at sc old new a s Normal same i; run = refl; effort = sym (goes-on (st.effort a s) (f a s (running old.budget)) new.budget (ran a s i)) };
}

pub before-stops : (sc : Scope) (f : Around → State → Tally → Tally) (st : Step) (old : Env) (h : Halt) → ((a : Around) (s : State) → IsAt sc old a s Normal → Halts h (f a s (running old.budget))) → Stops sc (after_effort f st) old h
before-stops sc f st old h stops = record { at = λ a s i. halts-onward h (st.effort a s) (f a s (running old.budget)) (stops a s i) }

-- one after the other
pub next : (sc : Scope) (st : Step) (rest : List Step) (cur new : Env) → Does sc st cur new Normal → Resumes sc (in_turn rest) (in_turn (st ∷ rest)) cur new
next sc st rest cur new d = record {
  holds = d.holds;
  at = λ a s i.
      let ran = d.at a s i in
      record {
        mid = st.run a s;
        is = ran.is;
        run = sym (ap (λ o. R.one_of (is_normal o) (λ b u. R.in_turn (runs rest) b (st.run b u)) R.idle a s) i.outcome);
        effort = sym (goes-on (E.in_turn rest a (st.run a s)) (st.effort a s (running cur.budget)) new.budget ran.effort)
            ∙ sym (ap (λ o. E.one_of (is_normal o) (λ b u v. onward (E.in_turn rest b (st.run b u)) (st.effort b u v)) E.no_effort a s (running cur.budget)) i.outcome);
      };
}

-- where one ends in another way, the others don't run
idle-runs : (rest : List Step) (a : Around) (s : State) → is_normal s.outcome ≡ false → R.in_turn (runs rest) a s ≡ s
idle-runs [] a s h = refl
idle-runs (st ∷ rest) a s h = ap (λ b. R.one_of b (λ c u. R.in_turn (runs rest) c (st.run c u)) R.idle a s) h

idle-efforts : (rest : List Step) (a : Around) (s : State) (t : Tally) → is_normal s.outcome ≡ false → E.in_turn rest a s t ≡ t
idle-efforts [] a s t h = refl
idle-efforts (st ∷ rest) a s t h = ap (λ b. E.one_of b (λ c u v. onward (E.in_turn rest c (st.run c u)) (st.effort c u v)) E.no_effort a s t) h

pub ends : (sc : Scope) (st : Step) (rest : List Step) (cur new : Env) (o : Outcome) → is_normal o ≡ false → Does sc st cur new o → Does sc (in_turn (st ∷ rest)) cur new o
ends sc st rest cur new o h d = record {
  holds = d.holds;
  at = λ a s i.
      let ran = d.at a s i in
      let out : is_normal (st.run a s).outcome ≡ false = ap is_normal ran.is.outcome ∙ h in
      record {
        is = subst (λ u. IsAt sc new a u o) (sym (ap (λ p. R.one_of (is_normal p) (λ b u. R.in_turn (runs rest) b (st.run b u)) R.idle a s) i.outcome ∙ idle-runs rest a (st.run a s) out)) ran.is;
        effort = ap (λ p. E.one_of (is_normal p) (λ b u v. onward (E.in_turn rest b (st.run b u)) (st.effort b u v)) E.no_effort a s (running cur.budget)) i.outcome
            ∙ goes-on (E.in_turn rest a (st.run a s)) (st.effort a s (running cur.budget)) new.budget ran.effort ∙ idle-efforts rest a (st.run a s) (running new.budget) out;
      };
}

pub first-stops : (sc : Scope) (st : Step) (rest : List Step) (cur : Env) (h : Halt) → Stops sc st cur h → Stops sc (in_turn (st ∷ rest)) cur h
first-stops sc st rest cur h d = record {
  at = λ a s i.
      subst (Halts h) (sym (ap (λ p. E.one_of (is_normal p) (λ b u v. onward (E.in_turn rest b (st.run b u)) (st.effort b u v)) E.no_effort a s (running cur.budget)) i.outcome))
      (halts-onward h (E.in_turn rest a (st.run a s)) (st.effort a s (running cur.budget)) (d.at a s i));
}

pub no-more : (sc : Scope) (cur : Env) → Does sc (in_turn []) cur cur Normal
no-more sc cur = record { holds = refl; at = λ a s i. record { is = i; effort = refl } }

pub normal-is : (o : Outcome) → is_normal o ≡ true → o ≡ Normal
normal-is Normal h = refl
normal-is Break h = absurd (cc)
normal-is Continue h = absurd (cc)
normal-is Return h = absurd (cc)
