-- Bodies of functions: what they start in, and what their locals hold at the end.
use Rattle.std.proofs.Common.{◌≡◌, ℕ, zero, suc, ◌+◌, ◌<◌, ◌≤◌, false, true, Bool, cond, pos, ◌+ℤ◌, min, List, [], ◌∷◌, length, map, drop, ◌⊎◌, inl, inr, Option, Some, None, Err, refl, arith, ap, sym, ◌∙◌, subst}
use Rattle.std.specs.Prelude.{◌&&◌, int_le, int_lt}
use Rattle.std.proofs.Math.Path.{fun_ext}
use Rattle.std.proofs.lemmas.Int.{ints}
use Rattle.std.proofs.lemmas.Bool.Decides.{nat_tests}
use Rattle.b4_core.specs.declared.bit.Bit4.{Bit4}
use Rattle.b4_core.specs.declared.bit.Bit4.TheVariants.{X}
use Rattle.std.proofs.Math.ListN.{drop_of_length-le}
use Rattle.eval_parts.specs.Picks.{Window, whole, picked, tabulated}
use Rattle.row_machine.specs.Valuation.{Valuation, Place, put}
use Rattle.row_machine.specs.Places.{bits_from, vector_at}
use Rattle.row_machine.specs.Steps.{unchanged, then_changes}
use Rattle.sv_types.specs.declared.statement.Formal.{Formal}
use Rattle.sv_types.specs.declared.statement.Function.{Function}
use Rattle.sv_types.specs.declared.statement.Outcome.{Outcome}
use Rattle.sv_types.specs.declared.statement.Outcome.TheVariants.{Normal}
use Rattle.sv_types.specs.Layouts.{layout, stored}
use Rattle.sv_types.specs.Surroundings.{Around, Parameter, is_signal, local_number}
use Rattle.sv_types.specs.Runs.{current, set_local}
use Rattle.sv_types.specs.Functions.{parameter, parameters, bound, alone_with, begun, callee_of, final, finals_of}
use Rattle.sv_types.specs.Statements.{doing}
use Rattle.sv_types.proofs.Picks.{pick, tabulated-same}
use Rattle.eval_parts.specs.declared.halt.Halt.{Halt}
use Rattle.eval_parts.specs.declared.paths.Root.TheVariants as P
use Rattle.eval_parts.specs.Answers.{Halts}
use Rattle.eval_parts.specs.Places.{bit_of, bit_or_x}
use Rattle.eval_parts.specs.Steps.{is_held}
use Rattle.eval_parts.specs.Surroundings.{now_of, running}
use Rattle.eval_exprs.specs.declared.calls.Call.{Call}
use Rattle.eval_exprs.specs.declared.calls.Called.{Called}
use Rattle.eval_exprs.specs.declared.held.Scope.{Scope}
use Rattle.eval_exprs.specs.Calls.{Ends, CalledGives}
use Rattle.eval_exprs.specs.Held.{callees_in}
use Rattle.eval_stmts.specs.declared.env.Env.{Env}
use Rattle.eval_stmts.specs.Environments.{updates, Written}
use Rattle.eval_stmts.specs.Stepping.{IsAt, Does, Stops, step_of}
use Rattle.eval_stmts.proofs.Assigning.{put-then}
use Rattle.eval_stmts.proofs.Matching.{by-min}
use Rattle.eval_runs.specs.Functions.{final_in, finals_in}

-- all bits of a local
local-bits : (v : Valuation) (n from w : ℕ) → tabulated w (λ j. v (record { signal = n; bit = from + j })) ≡ bits_from v n from w
local-bits v n from zero = refl
local-bits v n from (suc w) =
    ap (λ k. v (record { signal = n; bit = k }) ∷ tabulated w (λ j. v (record { signal = n; bit = from + suc j }))) (omega arith)
    ∙ ap (λ bs. v (record { signal = n; bit = from }) ∷ bs)
    (tabulated-same w (λ j. v (record { signal = n; bit = from + suc j })) (λ j. v (record { signal = n; bit = suc from + j })) (λ j h. ap (λ k. v (record { signal = n; bit = k })) (omega arith)) ∙ local-bits v n (suc from) w)

picked-whole : (w j : ℕ) → j < w → picked (whole w) j ≡ Some j
picked-whole w j h =
    let at : pos j +ℤ pos 0 ≡ pos j = omega (arith, ints) in
    let there : (int_le (pos 0) (pos j) && int_lt (pos j) (pos w)) ≡ true = grind (arith, nat_tests) in
    ap (pick 0 w) at ∙ ap (λ b. cond b (Some j) None) there

pub local-vector : (v : Valuation) (n w : ℕ) → tabulated w (λ j. bit_or_x (bit_of (P.Local n) v) (picked (whole w) j)) ≡ vector_at v (local_number n) w
local-vector v n w =
    tabulated-same w (λ j. bit_or_x (bit_of (P.Local n) v) (picked (whole w) j)) (λ j. v (record { signal = local_number n; bit = 0 + j }))
    (λ j h. ap (bit_or_x (bit_of (P.Local n) v)) (picked-whole w j h) ∙ ap (λ k. v (record { signal = local_number n; bit = k })) (omega arith))
    ∙ local-bits v (local_number n) 0 w

-- nothing is held at the start
either-x : (b : Bool) → cond b X X ≡ X
either-x true = refl
either-x false = refl

pub nothing-now : (q : Place) → now_of [] [] q ≡ X
nothing-now q = either-x (is_signal q.signal)

pub nothing-held : (n : ℕ) → is_held [] n ≡ false
nothing-held n = refl

-- an environment in which the formals hold what is passed to them
pub record Begins (env : Env) (ps : List Parameter) (vs : List (List Bit4)) : Type 0 where
  pub now : now_of env.signals.items env.locals.items ≡ put (bound ps vs) (now_of [] [])
  pub holds : is_held env.signals.items ≡ is_held []
  pub pending : env.pending.items ≡ []

pub no-signals : (env : Env) (ps : List Parameter) (vs : List (List Bit4)) → Begins env ps vs → is_held env.signals.items ≡ (λ n. false)
no-signals env ps vs b = b.holds ∙ fun_ext nothing-held

pub begins-at : (sc : Scope) (env : Env) (ps : List Parameter) (vs : List (List Bit4)) → Begins env ps vs → IsAt sc env (alone_with (callees_in sc)) (begun ps vs) Normal
begins-at sc env ps vs b =
    let by : Valuation → (ℕ → Bool) → Around = λ v h. record { now = v; holds = h; callee = callees_in sc } in
    record {
      now = ap (λ v. by v (is_held env.signals.items)) (b.now ∙ ap (put (bound ps vs)) (fun_ext nothing-now)) ∙ ap (by (put (bound ps vs) (λ q. X))) (no-signals env ps vs b);
      pending = ap updates b.pending;
      outcome = refl;
    }

pub from-empty : (empty env : Env) (ps : List Parameter) (vs : List (List Bit4)) → empty.signals.items ≡ [] → empty.locals.items ≡ [] → empty.pending.items ≡ [] → Written empty env (bound ps vs) → Begins env ps vs
from-empty empty env ps vs signals locals pending w = record {
  now = w.now ∙ ap (λ ss. put (bound ps vs) (now_of ss empty.locals.items)) signals ∙ ap (λ ls. put (bound ps vs) (now_of [] ls)) locals;
  holds = w.holds ∙ ap is_held signals;
  pending = w.pending ∙ pending;
}

finals-are : (env : Env) (a : Around) (ps : List Parameter) → now_of env.signals.items env.locals.items ≡ a.now → finals_in env ps ≡ finals_of ps a
finals-are env a [] is = refl
finals-are env a (p ∷ ps) is = ap (λ v. stored p.two_state (vector_at v (local_number p.number) (length p.two_state)) ∷ finals_in env ps) is ∙ ap (λ vs. final a p.number p.two_state ∷ vs) (finals-are env a ps is)

-- a body that ran to its end
pub body-ends : (sc : Scope) (f : Function) (q : Call) (one two : Env) (o : Outcome) (called : Called) → Begins one (parameters f) q.passed → one.budget ≡ q.left → Does sc (step_of (doing f.body)) one two o
    → called.result ≡ final_in two 0 (layout f.of).two_state → called.finals ≡ finals_in two (parameters f) → called.left ≡ two.budget → Ends called (callee_of (callees_in sc) f) q
body-ends sc f q one two o called b left d result finals after =
    let a = alone_with (callees_in sc) in
    let s = begun (parameters f) q.passed in
    let ran = d.at a s (begins-at sc one (parameters f) q.passed b) in
    let e = current a ((doing f.body).run a s) in
    let now : now_of two.signals.items two.locals.items ≡ e.now = ap (λ (x : Around). x.now) ran.is.now in
    record {
      result = result ∙ ap (λ v. stored (layout f.of).two_state (vector_at v (local_number 0) (length (layout f.of).two_state))) now;
      finals = finals ∙ finals-are two e (parameters f) now;
      runs = ap (λ l. (doing f.body).effort a s (running l)) (sym left) ∙ ran.effort ∙ ap running (sym after);
    }

-- and one that stops
pub body-stops : (sc : Scope) (f : Function) (q : Call) (one : Env) (h : Halt) → Begins one (parameters f) q.passed → one.budget ≡ q.left → Stops sc (step_of (doing f.body)) one h → CalledGives (Err h) (callee_of (callees_in sc) f) q
body-stops sc f q one h b left d =
    let a = alone_with (callees_in sc) in
    let s = begun (parameters f) q.passed in
    subst (λ l. Halts h ((doing f.body).effort a s (running l))) left (d.at a s (begins-at sc one (parameters f) q.passed b))

-- what a local holds, from what is read of it
pub last-is : (n w v : ℕ) (marks : List Bool) (path : Window) (ss ls : List (Option (List Bit4))) (env : Env) (bits : List Bit4) → path ≡ whole w → w ≡ length marks → v ≡ length marks → ss ≡ env.signals.items → ls ≡ env.locals.items
    → bits ≡ tabulated v (λ j. bit_or_x (bit_of (P.Local n) (now_of ss ls)) (picked path j)) → stored marks bits ≡ final_in env n marks
last-is n w v marks path ss ls env bits is long same signals locals read =
    ap (stored marks)
    (read ∙ ap (λ k. tabulated k (λ j. bit_or_x (bit_of (P.Local n) (now_of ss ls)) (picked path j))) same
    ∙ ap (λ p. tabulated (length marks) (λ j. bit_or_x (bit_of (P.Local n) (now_of ss ls)) (picked p j))) (is ∙ ap whole long) ∙ local-vector (now_of ss ls) n (length marks)
    ∙ ap (λ xs. vector_at (now_of xs ls) (local_number n) (length marks)) signals ∙ ap (λ xs. vector_at (now_of env.signals.items xs) (local_number n) (length marks)) locals)

-- the formals from a place on
pub bound-from : (fs gs : List Formal) (vs us : List (List Bit4)) (f : Formal) (v : List Bit4) → fs ≡ f ∷ gs → vs ≡ v ∷ us
    → bound (map parameter fs) vs ≡ then_changes (set_local f.local.number (layout f.local.of).two_state v) (bound (map parameter gs) us)
bound-from fs gs vs us f v formals passed = ap (λ xs. bound (map parameter xs) vs) formals ∙ ap (bound (map parameter (f ∷ gs))) passed

-- one more formal is written
pub bound-next : (fs gs : List Formal) (vs us : List (List Bit4)) (f : Formal) (v : List Bit4) (now next : Valuation) → fs ≡ f ∷ gs → vs ≡ v ∷ us → next ≡ put (set_local f.local.number (layout f.local.of).two_state v) now
    → put (bound (map parameter gs) us) next ≡ put (bound (map parameter fs) vs) now
bound-next fs gs vs us f v now next formals passed is =
    let c = set_local f.local.number (layout f.local.of).two_state v in
    let d = bound (map parameter gs) us in
    ap (put d) is ∙ sym (put-then c d now) ∙ ap (λ x. put x now) (sym (bound-from fs gs vs us f v formals passed))

no-passed : (ps : List Parameter) → bound ps [] ≡ unchanged
no-passed [] = refl
no-passed (p ∷ ps) = refl

bound-ends-by : (fs : List Formal) (vs : List (List Bit4)) (i : ℕ) → (length fs ≤ i) ⊎ (length vs ≤ i) → bound (map parameter (drop i fs)) (drop i vs) ≡ unchanged
bound-ends-by fs vs i (inl h) = ap (λ xs. bound (map parameter xs) (drop i vs)) (drop_of_length-le fs h)
bound-ends-by fs vs i (inr h) = ap (bound (map parameter (drop i fs))) (drop_of_length-le vs h) ∙ no-passed (map parameter (drop i fs))

pub bound-ends : (fs : List Formal) (vs : List (List Bit4)) (i : ℕ) (now : Valuation) → min (length fs) (length vs) ≤ i → put (bound (map parameter (drop i fs)) (drop i vs)) now ≡ now
bound-ends fs vs i now h = ap (λ c. put c now) (bound-ends-by fs vs i (by-min (length fs) (length vs) i h))
