-- Formals that are handed back.
use Rattle.std.proofs.Common.{◌≡◌, ℕ, ◌≤◌, min, Bool, List, [], ◌∷◌, map, drop, length, ◌⊎◌, inl, inr, refl, arith, ap, sym, ◌∙◌, subst}
use Rattle.std.proofs.Math.ListN.{drop_of_length-le}
use Rattle.b4_core.specs.declared.bit.Bit4.{Bit4}
use Rattle.b4_core.specs.Vectors.{ext}
use Rattle.sv_types.specs.declared.expression.Expr.{Expr}
use Rattle.sv_types.specs.declared.statement.Formal.{Formal}
use Rattle.sv_types.specs.declared.statement.Outcome.TheVariants.{Normal}
use Rattle.sv_types.specs.Surroundings.{Parameter}
use Rattle.sv_types.specs.Meanings.{Meaning, wide}
use Rattle.sv_types.specs.Functions.{parameter}
use Rattle.sv_types.specs.Expressions.{meaning}
use Rattle.sv_types.specs.Operators.{assigned_width}
use Rattle.sv_types.specs.Runs.{current, assign_now}
use Rattle.sv_types.specs.Efforts.{Step}
use Rattle.sv_types.specs.Statements.{roots_by_way, actual_roots}
use Rattle.eval_parts.specs.Limits.{FitsAlone}
use Rattle.eval_parts.specs.Steps.{is_held}
use Rattle.eval_parts.specs.Surroundings.{running}
use Rattle.eval_exprs.specs.declared.held.Scope.{Scope}
use Rattle.eval_stmts.specs.declared.env.Env.{Env}
use Rattle.eval_stmts.specs.declared.env.Update.{Update}
use Rattle.eval_stmts.specs.Environments.{standing, updates, AllHeld, SameSlots, Written}
use Rattle.eval_stmts.specs.Parts.{Adds}
use Rattle.eval_stmts.specs.Routines.{copies_step}
use Rattle.eval_stmts.specs.Stepping.{IsAt, Does, Resumes}
use Rattle.eval_stmts.specs.Targets.{ActualsFit}
use Rattle.eval_stmts.proofs.Assigning as A
use Rattle.eval_stmts.proofs.Chains as C
use Rattle.eval_stmts.proofs.Fitting.{held-left, held-right}
use Rattle.eval_stmts.proofs.Given.{fits-alone}
use Rattle.eval_stmts.proofs.Matching.{by-min}
use Rattle.eval_runs.specs.Forms.{copy_step}

-- one that is written to its actual
pub copies : (sc : Scope) (p : Parameter) (m : Meaning) (v given : List Bit4) (us : List Update) (old mid new : Env) → given ≡ ext (wide m) p.signed v → SameSlots old mid
    → Adds (m.puts (standing sc old) given) (is_held old.signals.items) [] us → m.places (standing sc old) (running old.budget) ≡ running mid.budget → Written mid new (updates us) → Does sc (copy_step p m v) old new Normal
copies sc p m v given us old mid new is same adds ran w = record {
  holds = w.holds ∙ C.same-held old mid same;
  at = λ a s i.
      let changes : updates us ≡ m.puts (current a s) (ext (wide m) p.signed v) =
      adds.changes ∙ A.then-nothing (m.puts (standing sc old) given) ∙ ap (λ e. m.puts e given) i.now ∙ ap (m.puts (current a s)) is
      in record {
        is = subst (λ c. IsAt sc new a (assign_now c s) Normal) changes (A.wrote sc mid new (updates us) a s Normal w (C.same-at sc old mid a s Normal same i));
        effort = ap (λ e. m.places e (running old.budget)) (sym i.now) ∙ ran ∙ ap running (sym w.budget);
      };
}

-- the first of several actuals, and those behind it
pub first-fits : (f : Formal) (fs : List Formal) (e : Expr) (es : List Expr) (ps : ℕ → List Parameter) → ActualsFit (map parameter (f ∷ fs)) (e ∷ es) ps → FitsAlone (meaning e) ps
first-fits f fs e es ps fit = fits-alone e ps (assigned_width (parameter f).two_state (meaning e)) (omega arith) fit.0

pub first-held : (f : Formal) (fs : List Formal) (e : Expr) (es : List Expr) (h : ℕ → Bool) → AllHeld (actual_roots (map parameter (f ∷ fs)) (map meaning (e ∷ es))) h → AllHeld (roots_by_way f.way (meaning e)) h
first-held f fs e es h held = held-left (roots_by_way f.way (meaning e)) (actual_roots (map parameter fs) (map meaning es)) h held

pub later-held : (f : Formal) (fs : List Formal) (e : Expr) (es : List Expr) (h : ℕ → Bool) → AllHeld (actual_roots (map parameter (f ∷ fs)) (map meaning (e ∷ es))) h → AllHeld (actual_roots (map parameter fs) (map meaning es)) h
later-held f fs e es h held = held-right (roots_by_way f.way (meaning e)) (actual_roots (map parameter fs) (map meaning es)) h held

-- behind the last of any of the three nothing is handed back
no-actuals : (sc : Scope) (ps : List Parameter) (vs : List (List Bit4)) (env : Env) → Does sc (copies_step ps [] vs) env env Normal
no-actuals sc [] vs env = record { holds = refl; at = λ a s i. record { is = i; effort = refl } }
no-actuals sc (p ∷ ps) vs env = record { holds = refl; at = λ a s i. record { is = i; effort = refl } }

no-finals : (sc : Scope) (ps : List Parameter) (ms : List Meaning) (env : Env) → Does sc (copies_step ps ms []) env env Normal
no-finals sc [] ms env = record { holds = refl; at = λ a s i. record { is = i; effort = refl } }
no-finals sc (p ∷ ps) [] env = record { holds = refl; at = λ a s i. record { is = i; effort = refl } }
no-finals sc (p ∷ ps) (m ∷ ms) env = record { holds = refl; at = λ a s i. record { is = i; effort = refl } }

no-formals : (sc : Scope) (ms : List Meaning) (vs : List (List Bit4)) (env : Env) → Does sc (copies_step [] ms vs) env env Normal
no-formals sc ms vs env = record { holds = refl; at = λ a s i. record { is = i; effort = refl } }

ends-by : (sc : Scope) (fs : List Formal) (es : List Expr) (vs : List (List Bit4)) (i : ℕ) (env : Env) → ((length fs ≤ i) ⊎ (length es ≤ i)) ⊎ (length vs ≤ i)
    → Does sc (copies_step (map parameter (drop i fs)) (map meaning (drop i es)) (drop i vs)) env env Normal
ends-by sc fs es vs i env (inl (inl h)) =
    subst (λ xs. Does sc (copies_step (map parameter xs) (map meaning (drop i es)) (drop i vs)) env env Normal) (sym (drop_of_length-le fs h)) (no-formals sc (map meaning (drop i es)) (drop i vs) env)
ends-by sc fs es vs i env (inl (inr h)) =
    subst (λ xs. Does sc (copies_step (map parameter (drop i fs)) (map meaning xs) (drop i vs)) env env Normal) (sym (drop_of_length-le es h)) (no-actuals sc (map parameter (drop i fs)) (drop i vs) env)
ends-by sc fs es vs i env (inr h) =
    subst (λ xs. Does sc (copies_step (map parameter (drop i fs)) (map meaning (drop i es)) xs) env env Normal) (sym (drop_of_length-le vs h)) (no-finals sc (map parameter (drop i fs)) (map meaning (drop i es)) env)

either-ends : (m n k i : ℕ) → (min m n ≤ i) ⊎ (k ≤ i) → ((m ≤ i) ⊎ (n ≤ i)) ⊎ (k ≤ i)
either-ends m n k i (inl h) = inl (by-min m n i h)
either-ends m n k i (inr h) = inr h

pub no-more-back : (sc : Scope) (fs : List Formal) (es : List Expr) (vs : List (List Bit4)) (i : ℕ) (env : Env) → min (min (length fs) (length es)) (length vs) ≤ i
    → Does sc (copies_step (map parameter (drop i fs)) (map meaning (drop i es)) (drop i vs)) env env Normal
no-more-back sc fs es vs i env h = ends-by sc fs es vs i env (either-ends (length fs) (length es) (length vs) i (by-min (min (length fs) (length es)) (length vs) i h))

-- formals, actuals and last values from a place on, where there are all three
pub fits-from : (fs gs : List Formal) (es xs : List Expr) (f : Formal) (e : Expr) (ps : ℕ → List Parameter) → fs ≡ f ∷ gs → es ≡ e ∷ xs → ActualsFit (map parameter fs) es ps → ActualsFit (map parameter (f ∷ gs)) (e ∷ xs) ps
fits-from fs gs es xs f e ps formals actuals fit = subst (λ ys. ActualsFit (map parameter (f ∷ gs)) ys ps) actuals (subst (λ ys. ActualsFit (map parameter ys) es ps) formals fit)

pub held-from : (fs gs : List Formal) (es xs : List Expr) (f : Formal) (e : Expr) (h : ℕ → Bool) → fs ≡ f ∷ gs → es ≡ e ∷ xs → AllHeld (actual_roots (map parameter fs) (map meaning es)) h
    → AllHeld (actual_roots (map parameter (f ∷ gs)) (map meaning (e ∷ xs))) h
held-from fs gs es xs f e h formals actuals held =
    subst (λ ys. AllHeld (actual_roots (map parameter (f ∷ gs)) (map meaning ys)) h) actuals (subst (λ ys. AllHeld (actual_roots (map parameter ys) (map meaning es)) h) formals held)

pub left-from : (sc : Scope) (all : Step) (start cur : Env) (fs gs : List Formal) (es xs : List Expr) (vs us : List (List Bit4)) (f : Formal) (e : Expr) (v : List Bit4) → fs ≡ f ∷ gs → es ≡ e ∷ xs → vs ≡ v ∷ us
    → Resumes sc (copies_step (map parameter fs) (map meaning es) vs) all start cur → Resumes sc (copies_step (map parameter (f ∷ gs)) (map meaning (e ∷ xs)) (v ∷ us)) all start cur
left-from sc all start cur fs gs es xs vs us f e v formals actuals finals left =
    subst (λ ws. Resumes sc (copies_step (map parameter (f ∷ gs)) (map meaning (e ∷ xs)) ws) all start cur) finals
    (subst (λ ys. Resumes sc (copies_step (map parameter (f ∷ gs)) (map meaning ys) vs) all start cur) actuals (subst (λ ys. Resumes sc (copies_step (map parameter ys) (map meaning es) vs) all start cur) formals left))
