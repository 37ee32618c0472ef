-- Assignments, from what their parts gave.
use Rattle.std.proofs.Common.{◌≡◌, ℕ, ◌≤◌, true, false, List, map, Result, Ok, Err, arith, ap, sym, ◌∙◌, subst}
use Rattle.b4_core.specs.declared.bit.Bit4.{Bit4}
use Rattle.sv_types.specs.declared.expression.Expr.{Expr}
use Rattle.sv_types.specs.declared.statement.Outcome.TheVariants.{Normal}
use Rattle.sv_types.specs.Surroundings.{Around, Parameter, onward}
use Rattle.sv_types.specs.Meanings.{wide}
use Rattle.sv_types.specs.Operators.{puts_all, places_all}
use Rattle.sv_types.specs.Expressions.{meaning}
use Rattle.sv_types.specs.Runs as R
use Rattle.sv_types.specs.Runs.{State, current}
use Rattle.sv_types.proofs.Widths.{has-bits}
use Rattle.eval_parts.specs.declared.halt.Halt.{Halt}
use Rattle.eval_parts.specs.Limits.{Fits, FitsAlone}
use Rattle.eval_parts.specs.Steps.{is_held}
use Rattle.eval_parts.specs.Surroundings.{running}
use Rattle.eval_parts.proofs.Efforts.{goes-on}
use Rattle.eval_parts.proofs.Narrower.{grows}
use Rattle.eval_exprs.specs.declared.held.Scope.{Scope}
use Rattle.eval_stmts.specs.declared.env.Env.{Env}
use Rattle.eval_stmts.specs.Assignments.{WantsMemory, PlacesRun}
use Rattle.eval_stmts.specs.Environments.{standing, SameSlots, Written, Pends}
use Rattle.eval_stmts.specs.Stepping.{IsAt, GoesOn}
use Rattle.eval_stmts.specs.Targets.{assign_step}
use Rattle.eval_stmts.proofs.Assigning as A
use Rattle.eval_stmts.proofs.Chains as C

-- what fits at a width fits alone
pub fits-alone : (e : Expr) (fs : ℕ → List Parameter) (w : ℕ) → wide (meaning e) ≤ w → Fits (meaning e) fs w → FitsAlone (meaning e) fs
fits-alone e fs w wider f =
    record { some = has-bits e f.typed; typed = f.typed; narrow = f.narrow; arithmetic = omega (arith, f.arithmetic, grows e fs (wide (meaning e)) w wider); indexing = f.indexing }

-- an assignment up to its write
pub record Reached (sc : Scope) (to : List Expr) (e : Expr) (v : List Bit4) (old one two : Env) : Type 0 where
  pub first : SameSlots old one
  pub places : places_all (map meaning to) (standing sc old) (running old.budget) ≡ running one.budget
  pub second : SameSlots one two
  pub given : v ≡ R.value_given (map meaning to) (meaning e) (standing sc one)
  pub values : (meaning e).values (standing sc one) (running one.budget) ≡ running two.budget

pub places-run : (sc : Scope) (to : List Expr) (old one two : Env) → SameSlots old one → SameSlots one two → places_all (map meaning to) (standing sc old) (running old.budget) ≡ running one.budget
    → PlacesRun (map meaning to) (standing sc two) old.budget
places-run sc to old one two first second is =
    record { left = one.budget; is = ap (λ a. places_all (map meaning to) a (running old.budget)) (C.stands sc one two second ∙ C.stands sc old one first) ∙ is }

effort-is : (sc : Scope) (to : List Expr) (e : Expr) (v : List Bit4) (old one two new : Env) (a : Around) (s : State) → Reached sc to e v old one two → IsAt sc old a s Normal → new.budget ≡ two.budget
    → onward ((meaning e).values (current a s)) (places_all (map meaning to) (current a s) (running old.budget)) ≡ running new.budget
effort-is sc to e v old one two new a s r i left =
    let j = C.same-at sc old one a s Normal r.first i in
    goes-on ((meaning e).values (current a s)) (places_all (map meaning to) (current a s) (running old.budget)) one.budget (ap (λ x. places_all (map meaning to) x (running old.budget)) (sym i.now) ∙ r.places)
    ∙ ap (λ x. (meaning e).values x (running one.budget)) (sym j.now) ∙ r.values ∙ ap running (sym left)

changes-are : (sc : Scope) (to : List Expr) (e : Expr) (v : List Bit4) (old one two : Env) (a : Around) (s : State) → Reached sc to e v old one two → IsAt sc old a s Normal
    → puts_all (map meaning to) (standing sc two) v ≡ R.changes_of (map meaning to) (meaning e) (current a s)
changes-are sc to e v old one two a s r i =
    let j = C.same-at sc old one a s Normal r.first i in
    let k = C.same-at sc one two a s Normal r.second j in
    ap (λ x. puts_all (map meaning to) x v) k.now ∙ ap (puts_all (map meaning to) (current a s)) (r.given ∙ ap (R.value_given (map meaning to) (meaning e)) j.now)

pub now-goes : (r : Result (Unit {0}) Halt) (sc : Scope) (to : List Expr) (e : Expr) (v : List Bit4) (old one two new : Env) → Reached sc to e v old one two
    → WantsMemory r (Written two new (puts_all (map meaning to) (standing sc two) v)) → GoesOn r sc (assign_step false to e) old new
now-goes (Ok x) sc to e v old one two new r w = record {
  holds = w.holds ∙ C.same-held one two r.second ∙ C.same-held old one r.first;
  at = λ a s i. record {
    is = subst (λ c. IsAt sc new a (R.assign_now c s) Normal) (changes-are sc to e v old one two a s r i)
        (A.wrote sc two new (puts_all (map meaning to) (standing sc two) v) a s Normal w (C.same-at sc one two a s Normal r.second (C.same-at sc old one a s Normal r.first i)));
    effort = effort-is sc to e v old one two new a s r i w.budget;
  };
}
now-goes (Err h) sc to e v old one two new r w = record { at = λ a s i. w (onward ((meaning e).values (current a s)) (places_all (map meaning to) (current a s) (running old.budget))) }

pub later-goes : (r : Result (Unit {0}) Halt) (sc : Scope) (to : List Expr) (e : Expr) (v : List Bit4) (old one two new : Env) → Reached sc to e v old one two → new.budget ≡ two.budget
    → WantsMemory r (Pends two new (puts_all (map meaning to) (standing sc two) v)) → GoesOn r sc (assign_step true to e) old new
later-goes (Ok x) sc to e v old one two new r left w = record {
  holds = ap is_held w.signals ∙ C.same-held one two r.second ∙ C.same-held old one r.first;
  at = λ a s i. record {
    is = subst (λ c. IsAt sc new a (R.assign_later c s) Normal) (changes-are sc to e v old one two a s r i)
        (A.waits sc two new (puts_all (map meaning to) (standing sc two) v) a s Normal w (C.same-at sc one two a s Normal r.second (C.same-at sc old one a s Normal r.first i)));
    effort = effort-is sc to e v old one two new a s r i left;
  };
}
later-goes (Err h) sc to e v old one two new r left w = record { at = λ a s i. w (onward ((meaning e).values (current a s)) (places_all (map meaning to) (current a s) (running old.budget))) }
