-- The trace by rounds, and the trace.
use Rattle.std.proofs.Common.{◌≡◌, ℕ, zero, suc, ◌+◌, List, refl, sym, ap, ◌∙◌, arith}
use Rattle.row_machine.specs.Valuation.{Valuation}
use Rattle.row_machine.specs.Machine.{Machine, Started}
use Rattle.row_machine.specs.Settle.{Settled, SettlesBy, ends, goes_on}
use Rattle.row_machine.specs.Trace.{RowStepBy, TraceBy, done, row}
use Rattle.row_machine.specs.Order.{Sound}
use Rattle.row_machine.specs.Rounds.{round, after_rounds, Reaches}
use Rattle.row_machine.proofs.Rounds.{reaches}
use Rattle.row_machine.proofs.Unique.{trace_once}

module _ (A B : Started → Valuation → Valuation → Type 0) (f : (s : Started) (base v : Valuation) → A s base v → B s base v) (d : Machine) where
  settles_too : {base : Valuation} {s t : Started} {v : Valuation} → SettlesBy A d base s t v → SettlesBy B d base s t v
  settles_too {base = base} (ends {s = s} {v = v} a over) = ends (f s base v a) over
  settles_too {base = base} (goes_on {s = s} {v = v} a more rest) = goes_on (f s base v a) more (settles_too rest)

  step_too : {r last held : Valuation} {s t : Started} {v : Valuation} → RowStepBy A d r last held s t v → RowStepBy B d r last held s t v
  step_too a = record { quiet = a.quiet; started = a.started; inputs_settle = settles_too a.inputs_settle; updates_settle = settles_too a.updates_settle }

  pub trace_too : {last held : Valuation} {s : Started} {rows vs : List Valuation} → TraceBy A d last held s rows vs → TraceBy B d last held s rows vs
  trace_too done = done
  trace_too (row a rest) = row (step_too a) (trace_too rest)

module _ (d : Machine) where
  pub reached_settled : (s : Started) (base v : Valuation) → Reaches d s base v → Settled d s base v
  reached_settled s base v r = sym r.stays

  module _ (s : Started) (base : Valuation) where
    stays_after : (v : Valuation) → round d s base v ≡ v → (n : ℕ) → after_rounds d s base n v ≡ v
    stays_after v e zero = refl
    stays_after v e (suc n) = ap (after_rounds d s base n) e ∙ stays_after v e n

    after_both : (k n : ℕ) (v : Valuation) → after_rounds d s base (k + n) v ≡ after_rounds d s base n (after_rounds d s base k v)
    after_both zero n v = let e : 0 + n ≡ n = omega arith in ap (λ j. after_rounds d s base j v) e
    after_both (suc k) n v =
        let e : suc k + n ≡ suc (k + n) = omega arith in
        ap (λ j. after_rounds d s base j v) e ∙ after_both k n (round d s base v)

    still : (v : Valuation) (r : Reaches d s base v) (n : ℕ) → after_rounds d s base (r.rounds + n) base ≡ v
    still v r n = after_both r.rounds n base ∙ ap (after_rounds d s base n) r.reached ∙ stays_after v r.stays n

    pub reached_once : (v u : Valuation) → Reaches d s base v → Reaches d s base u → u ≡ v
    reached_once v u a b =
        let e : b.rounds + a.rounds ≡ a.rounds + b.rounds = omega arith in
        sym (still u b a.rounds) ∙ ap (λ n. after_rounds d s base n base) e ∙ still v a b.rounds

  pub round_trace_once : {last held : Valuation} {s : Started} {rows vs us : List Valuation} → TraceBy (Reaches d) d last held s rows vs → TraceBy (Reaches d) d last held s rows us → us ≡ vs
  round_trace_once a b = trace_once (Reaches d) reached_once d a b

  pub round_trace_trace : {last held : Valuation} {s : Started} {rows vs : List Valuation} → TraceBy (Reaches d) d last held s rows vs → TraceBy (Settled d) d last held s rows vs
  round_trace_trace a = trace_too (Reaches d) (Settled d) reached_settled d a

  pub trace_round_trace : Sound d → {last held : Valuation} {s : Started} {rows vs : List Valuation} → TraceBy (Settled d) d last held s rows vs → TraceBy (Reaches d) d last held s rows vs
  trace_round_trace sound a = trace_too (Settled d) (Reaches d) (reaches d sound) d a
