-- Calls of tasks and void functions, from what their parts gave.
use Rattle.std.proofs.Common.{◌≡◌, ℕ, List, map, Result, Ok, Err, ap, sym, ◌∙◌, subst}
use Rattle.b4_core.specs.declared.bit.Bit4.{Bit4}
use Rattle.sv_types.specs.declared.expression.Expr.{Expr}
use Rattle.sv_types.specs.declared.statement.Outcome.TheVariants.{Normal}
use Rattle.sv_types.specs.Surroundings.{Around, Callee, Parameter, Tally, onward}
use Rattle.sv_types.specs.Meanings.{Meaning}
use Rattle.sv_types.specs.Expressions.{meaning}
use Rattle.sv_types.specs.Runs as R
use Rattle.sv_types.specs.Runs.{State, all_taken_in, current}
use Rattle.sv_types.specs.Efforts as E
use Rattle.sv_types.specs.Efforts.{Step, all_take_in}
use Rattle.eval_parts.specs.declared.halt.Halt.{Halt}
use Rattle.eval_parts.specs.Answers.{Halts}
use Rattle.eval_parts.specs.Surroundings.{running}
use Rattle.eval_parts.proofs.Efforts.{goes-on, halts-onward}
use Rattle.eval_exprs.proofs.EvalForms.{formals-within}
use Rattle.eval_exprs.specs.declared.calls.Call.{Call}
use Rattle.eval_exprs.specs.declared.calls.Called.{Called}
use Rattle.eval_exprs.specs.declared.held.Scope.{Scope}
use Rattle.eval_exprs.specs.Calls.{CalledGives}
use Rattle.eval_exprs.specs.Held.{callees_in, formals}
use Rattle.eval_stmts.specs.declared.env.Env.{Env}
use Rattle.eval_stmts.specs.Environments.{standing, SameSlots}
use Rattle.eval_stmts.specs.Routines.{copies_step}
use Rattle.eval_stmts.specs.Stepping.{IsAt, Stops, GoesOn, Resumes}
use Rattle.eval_stmts.specs.Targets.{routine_step}
use Rattle.eval_stmts.proofs.Chains as C

-- what is left answers for all
pub goes-resumed : (r : Result (Unit {0}) Halt) (sc : Scope) (rest all : Step) (start cur new : Env) → Resumes sc rest all start cur → GoesOn r sc rest cur new → GoesOn r sc all start new
goes-resumed (Ok x) sc rest all start cur new m d = C.resumed (Ok Normal) sc rest all start cur new m d
goes-resumed (Err h) sc rest all start cur new m d = C.resumed (Err h) sc rest all start cur new m d

abbrev run_by : List Parameter → Callee → List Meaning → Around → State → Around → State
run_by ps k ms a s e = R.copies_out ps ms (k.run (all_taken_in ps ms e)).finals a s

abbrev effort_by : List Parameter → Callee → List Meaning → Around → State → Around → Tally → Tally
effort_by ps k ms a s e t =
    let inputs = all_taken_in ps ms e in
    onward (E.copies_out ps ms (k.run inputs).finals a s) (onward (k.effort inputs) (all_take_in ps ms e t))

formals-are : (sc : Scope) (f : ℕ) (ps : List Parameter) → ps ≡ formals sc f → ps ≡ (callees_in sc f).formals
formals-are sc f ps is = is ∙ sym (formals-within sc.depth sc.functions.now f)

run-is : (sc : Scope) (f : ℕ) (ms : List Meaning) (ps : List Parameter) (old : Env) (a : Around) (s : State) → ps ≡ formals sc f → IsAt sc old a s Normal
    → run_by ps (callees_in sc f) ms a s (standing sc old) ≡ R.call_routine f ms a s
run-is sc f ms ps old a s is i =
    ap (λ qs. run_by qs (callees_in sc f) ms a s (standing sc old)) (formals-are sc f ps is) ∙ ap (λ (x : Around). run_by (x.callee f).formals (x.callee f) ms a s x) i.now

effort-is : (sc : Scope) (f : ℕ) (ms : List Meaning) (ps : List Parameter) (old : Env) (a : Around) (s : State) (t : Tally) → ps ≡ formals sc f → IsAt sc old a s Normal
    → effort_by ps (callees_in sc f) ms a s (standing sc old) t ≡ E.call_routine f ms a s t
effort-is sc f ms ps old a s t is i =
    ap (λ qs. effort_by qs (callees_in sc f) ms a s (standing sc old) t) (formals-are sc f ps is) ∙ ap (λ (x : Around). effort_by (x.callee f).formals (x.callee f) ms a s x t) i.now

-- what is passed
pub record Passed (sc : Scope) (f : ℕ) (ms : List Meaning) (ps : List Parameter) (vs : List (List Bit4)) (old mid : Env) : Type 0 where
  pub formals : ps ≡ formals sc f
  pub same : SameSlots old mid
  pub inputs : vs ≡ all_taken_in ps ms (standing sc old)
  pub runs : all_take_in ps ms (standing sc old) (running old.budget) ≡ running mid.budget

-- a call that wants something that stops
pub stops-before : (sc : Scope) (f : ℕ) (es : List Expr) (ps : List Parameter) (old : Env) (h : Halt) → ps ≡ formals sc f → Halts h (all_take_in ps (map meaning es) (standing sc old) (running old.budget)) → Stops sc (routine_step f es) old h
stops-before sc f es ps old h is stops = record {
  at = λ a s i.
      let ms = map meaning es in
      let inputs = all_taken_in ps ms (standing sc old) in
      let k = callees_in sc f in
      subst (Halts h) (effort-is sc f ms ps old a s (running old.budget) is i)
      (halts-onward h (E.copies_out ps ms (k.run inputs).finals a s) (onward (k.effort inputs) (all_take_in ps ms (standing sc old) (running old.budget)))
      (halts-onward h (k.effort inputs) (all_take_in ps ms (standing sc old) (running old.budget)) stops));
}

effort-on : (sc : Scope) (f : ℕ) (ms : List Meaning) (ps : List Parameter) (vs : List (List Bit4)) (old mid : Env) (a : Around) (s : State) → Passed sc f ms ps vs old mid
    → effort_by ps (callees_in sc f) ms a s (standing sc old) (running old.budget) ≡ onward (E.copies_out ps ms ((callees_in sc f).run vs).finals a s) ((callees_in sc f).effort vs (running mid.budget))
effort-on sc f ms ps vs old mid a s p =
    let k = callees_in sc f in
    let inputs = all_taken_in ps ms (standing sc old) in
    ap (onward (E.copies_out ps ms (k.run inputs).finals a s)) (goes-on (k.effort inputs) (all_take_in ps ms (standing sc old) (running old.budget)) mid.budget p.runs)
    ∙ ap (λ xs. onward (E.copies_out ps ms (k.run xs).finals a s) (k.effort xs (running mid.budget))) (sym p.inputs)

-- a routine that stops
pub stops-in : (sc : Scope) (f : ℕ) (es : List Expr) (ps : List Parameter) (vs : List (List Bit4)) (old mid : Env) (q : Call) (h : Halt) → Passed sc f (map meaning es) ps vs old mid → q.passed ≡ vs → q.left ≡ mid.budget
    → CalledGives (Err h) (callees_in sc f) q → Stops sc (routine_step f es) old h
stops-in sc f es ps vs old mid q h p passed left gives = record {
  at = λ a s i.
      let ms = map meaning es in
      let k = callees_in sc f in
      let here : Halts h (k.effort vs (running mid.budget)) = subst (λ xs. Halts h (k.effort xs (running mid.budget))) passed (subst (λ l. Halts h (k.effort q.passed (running l))) left gives) in
      subst (Halts h) (sym (effort-on sc f ms ps vs old mid a s p) ∙ effort-is sc f ms ps old a s (running old.budget) p.formals i)
      (halts-onward h (E.copies_out ps ms (k.run vs).finals a s) (k.effort vs (running mid.budget)) here);
}

-- and one that ran to its end: its outputs are left to be assigned
pub outputs-left : (sc : Scope) (f : ℕ) (es : List Expr) (ps : List Parameter) (vs finals : List (List Bit4)) (old mid : Env) (q : Call) (called : Called) → Passed sc f (map meaning es) ps vs old mid → q.passed ≡ vs → q.left ≡ mid.budget
    → CalledGives (Ok called) (callees_in sc f) q → finals ≡ called.finals → Resumes sc (copies_step ps (map meaning es) finals) (routine_step f es) old (record mid { budget = called.left })
outputs-left sc f es ps vs finals old mid q called p passed left gives last =
    let ms = map meaning es in
    let k = callees_in sc f in
    let are : finals ≡ (k.run vs).finals = last ∙ gives.finals ∙ ap (λ xs. (k.run xs).finals) passed in
    let ran : k.effort vs (running mid.budget) ≡ running called.left = ap (λ xs. k.effort xs (running mid.budget)) (sym passed) ∙ ap (λ l. k.effort q.passed (running l)) (sym left) ∙ gives.runs in
    record {
      holds = C.same-held old mid p.same;
      at = λ a s i.
          let there = C.same-at sc old mid a s Normal p.same i in
          record {
            mid = s;
            is = record { now = there.now; pending = there.pending; outcome = there.outcome };
            run = ap (λ vs'. R.copies_out ps ms vs' a s) are ∙ ap (λ xs. R.copies_out ps ms (k.run xs).finals a s) p.inputs ∙ run-is sc f ms ps old a s p.formals i;
            effort = ap (λ vs'. E.copies_out ps ms vs' a s (running called.left)) are ∙ sym (goes-on (E.copies_out ps ms (k.run vs).finals a s) (k.effort vs (running mid.budget)) called.left ran)
                ∙ sym (effort-on sc f ms ps vs old mid a s p) ∙ effort-is sc f ms ps old a s (running old.budget) p.formals i;
          };
    }
