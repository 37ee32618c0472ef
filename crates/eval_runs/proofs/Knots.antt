-- Functions by their places, with calls that go so deep.
use Rattle.std.proofs.Common.{◌≡◌, ℕ, zero, suc, ◌<◌, ◌≤◌, List, [], ◌∷◌, length, get_or, Result, refl, arith, ap, sym, ◌∙◌, subst}
use Rattle.std.specs.Prelude.{slice_get}
use Rattle.std.proofs.lemmas.Option.{slice_get_past, slice_get-get_or}
use Rattle.sv_types.specs.declared.statement.Function.{Function}
use Rattle.sv_types.specs.Surroundings.{Callee, Parameter}
use Rattle.sv_types.specs.Functions.{callee_of, callee_or_absent, callees_within, not_run, absent}
use Rattle.eval_parts.specs.declared.halt.Halt.{Halt}
use Rattle.eval_exprs.specs.EvalForms.{AllFunctionsFit}
use Rattle.eval_exprs.specs.declared.calls.Call.{Call}
use Rattle.eval_exprs.specs.declared.calls.Called.{Called}
use Rattle.eval_exprs.specs.Calls.{CalledGives}
use Rattle.eval_runs.specs.Functions.{CanRun, EachCanRun}

within-zero : (fs : List Function) (n : ℕ) → callees_within zero fs n ≡ callee_or_absent not_run (slice_get fs n)
unfolding callees_within
within-zero fs n = refl

within-suc : (d : ℕ) (fs : List Function) (n : ℕ) → callees_within (suc d) fs n ≡ callee_or_absent (callee_of (callees_within d fs)) (slice_get fs n)
unfolding callees_within
within-suc d fs n = refl

-- behind the last function
pub nothing-there : (d : ℕ) (fs : List Function) (n : ℕ) → length fs ≤ n → absent ≡ callees_within d fs n
nothing-there zero fs n h = sym (within-zero fs n ∙ ap (callee_or_absent not_run) (slice_get_past fs n h))
nothing-there (suc d) fs n h = sym (within-suc d fs n ∙ ap (callee_or_absent (callee_of (callees_within d fs))) (slice_get_past fs n h))

-- where calls go no deeper
pub not-run-there : (fs : List Function) (n d : ℕ) (x : Function) → d ≡ zero → n < length fs → not_run (get_or fs n x) ≡ callees_within d fs n
not-run-there fs n d x none h = sym (ap (λ k. callees_within k fs n) none ∙ within-zero fs n ∙ ap (callee_or_absent not_run) (slice_get-get_or fs n x h))

-- and where they do
pub run-there : (fs : List Function) (n d below : ℕ) (x : Function) → d ≡ suc below → n < length fs → callee_of (callees_within below fs) (get_or fs n x) ≡ callees_within d fs n
run-there fs n d below x deep h =
    sym (ap (λ k. callees_within k fs n) deep ∙ within-suc below fs n ∙ ap (callee_or_absent (callee_of (callees_within below fs))) (slice_get-get_or fs n x h))

pub called-as : (r : Result Called Halt) (c k : Callee) (q : Call) → c ≡ k → CalledGives r c q → CalledGives r k q
called-as r c k q is gives = subst (λ x. CalledGives r x q) is gives

-- one of several functions
pub can-run : (fs : List Function) (n : ℕ) (x : Function) (ps : ℕ → List Parameter) → n < length fs → EachCanRun fs ps → CanRun (get_or fs n x) ps
can-run [] n x ps h f = absurd (omega arith)
can-run (y ∷ fs) zero x ps h f = f.0
can-run (y ∷ fs) (suc n) x ps h f = can-run fs n x ps (omega arith) f.1

pub all-fit : (fs : List Function) (ps : ℕ → List Parameter) → EachCanRun fs ps → AllFunctionsFit fs
all-fit [] ps f = tt
all-fit (y ∷ fs) ps f = (f.0.types, all-fit fs ps f.1)
