-- The functions that calls name, and their formals.
use Rattle.std.proofs.Common.{◌≡◌, ℕ, zero, suc, ◌<◌, ◌≤◌, List, [], ◌∷◌, length, map, get_or, Option, Some, None, refl, arith, ap, sym, ◌∙◌}
use Rattle.std.specs.Prelude.{slice_get}
use Rattle.std.proofs.lemmas.Option.{slice_get_past, slice_get-get_or}
use Rattle.sv_types.specs.declared.statement.Function.{Function}
use Rattle.sv_types.specs.Surroundings.{Callee}
use Rattle.sv_types.specs.Functions.{parameter, callee_of, callee_or_absent, callees_within, not_run}
use Rattle.eval_parts.specs.Targets.{AllNarrow}
use Rattle.eval_forms.specs.Callees.{AllFunctionsFit, formals_in, formals_or_none}

within-zero : (fs : List Function) (n : ℕ) → callees_within zero fs n ≡ callee_or_absent not_run (slice_get fs n)
unfolding callees_within
within-zero fs n = refl

within-suc : (d : ℕ) (fs : List Function) (n : ℕ) → callees_within (suc d) fs n ≡ callee_or_absent (callee_of (callees_within d fs)) (slice_get fs n)
unfolding callees_within
within-suc d fs n = refl

not-run-formals : (o : Option Function) → (callee_or_absent not_run o).formals ≡ formals_or_none o
not-run-formals None = refl
not-run-formals (Some f) = refl

run-formals : (c : ℕ → Callee) (o : Option Function) → (callee_or_absent (callee_of c) o).formals ≡ formals_or_none o
run-formals c None = refl
run-formals c (Some f) = refl

-- at any depth
pub formals-within : (d : ℕ) (fs : List Function) (n : ℕ) → (callees_within d fs n).formals ≡ formals_in fs n
formals-within zero fs n = ap (λ (c : Callee). c.formals) (within-zero fs n) ∙ not-run-formals (slice_get fs n)
formals-within (suc d) fs n = ap (λ (c : Callee). c.formals) (within-suc d fs n) ∙ run-formals (callees_within d fs) (slice_get fs n)

pub formals-there : (fs : List Function) (n : ℕ) (x : Function) → n < length fs → map parameter (get_or fs n x).formals ≡ formals_in fs n
formals-there fs n x h = ap formals_or_none (sym (slice_get-get_or fs n x h))

pub formals-past : (fs : List Function) (n : ℕ) → length fs ≤ n → [] ≡ formals_in fs n
formals-past fs n h = ap formals_or_none (sym (slice_get_past fs n h))

pub fits-there : (fs : List Function) (n : ℕ) (x : Function) → n < length fs → AllFunctionsFit fs → AllNarrow (get_or fs n x).formals
fits-there [] n x h f = absurd (omega arith)
fits-there (y ∷ fs) zero x h f = f.0.formals
fits-there (y ∷ fs) (suc n) x h f = fits-there fs n x (omega arith) f.1

pub ruleset formals = (formals-there, formals-past, fits-there)
