-- Walks over processes and what is found of them, one step at a time.
use Rattle.std.proofs.Common.{◌≡◌, ℕ, suc, ◌+◌, ◌<◌, ◌≤◌, Bool, List, ◌∷◌, length, drop, Option, slice_index_or, ap, sym, ◌∙◌, arith}
use Rattle.std.proofs.Math.Seq.{drop-cons}
use Rattle.std.proofs.lemmas.List.{drop_all}
use Rattle.sv_types.specs.declared.design.Process.{Process}
use Rattle.sv_types.specs.declared.statement.Function.{Function}
use Rattle.flow_sets.specs.declared.found.Found.{Found}
use Rattle.memory_breaks.specs.declared.processes.Written.{Written}
use Rattle.memory_breaks.specs.Processes.{all_written, written_by, all_unsettled, unsettled_by}

module _ (ps : List Process) (fs : List (Option Found)) (k : ℕ) where
  of-processes : (p : Process) → k < length ps → p ≡ slice_index_or ps k p → drop k ps ≡ p ∷ drop (k + 1) ps
  of-processes p within is =
      let at : suc k ≡ k + 1 = omega arith in
      drop-cons ps k p within ∙ (λ i. sym is i ∷ drop (at i) ps)

  of-found : (f : Option Found) → k < length ps → length fs ≡ length ps → f ≡ slice_index_or fs k f → drop k fs ≡ f ∷ drop (k + 1) fs
  of-found f within long is =
      let at : suc k ≡ k + 1 = omega arith in
      drop-cons fs k f (omega (arith, within, long)) ∙ (λ i. sym is i ∷ drop (at i) fs)

  pub written-step : (p : Process) (f : Option Found) (t : Written) → k < length ps → length fs ≡ length ps → p ≡ slice_index_or ps k p → f ≡ slice_index_or fs k f
      → all_written (drop (k + 1) ps) (drop (k + 1) fs) (written_by p f t) ≡ all_written (drop k ps) (drop k fs) t
  written-step p f t within long is it = sym (λ i. all_written (of-processes p within is i) (of-found f within long it i) t)

  pub written-end : (t : Written) → length ps ≤ k → all_written (drop k ps) (drop k fs) t ≡ t
  written-end t past = ap (λ qs. all_written qs (drop k fs) t) (drop_all k ps past)

  pub unsettled-step : (fns : List Function) (p : Process) (f : Option Found) (u : List Bool) → k < length ps → length fs ≡ length ps → p ≡ slice_index_or ps k p → f ≡ slice_index_or fs k f
      → all_unsettled fns (drop (k + 1) ps) (drop (k + 1) fs) (unsettled_by fns p f u) ≡ all_unsettled fns (drop k ps) (drop k fs) u
  unsettled-step fns p f u within long is it = sym (λ i. all_unsettled fns (of-processes p within is i) (of-found f within long it i) u)

  pub unsettled-end : (fns : List Function) (u : List Bool) → length ps ≤ k → all_unsettled fns (drop k ps) (drop k fs) u ≡ u
  unsettled-end fns u past = ap (λ qs. all_unsettled fns qs (drop k fs) u) (drop_all k ps past)
