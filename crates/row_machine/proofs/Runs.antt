-- Running the processes in an order gives the trace.
use Rattle.std.proofs.Common.{ℕ, zero, suc, ◌≤◌, Bool, true, false, if◌then◌else◌, List, [], ◌∷◌, length, sym, ◌∙◌, subst, inl, inr, arith}
use Rattle.row_machine.specs.Valuation.{Valuation}
use Rattle.row_machine.specs.Machine.{Process, Machine, Started, at_zero, base_of, after_edges}
use Rattle.row_machine.specs.Settle.{Settled, Settles, ends, goes_on, adds, woken}
use Rattle.row_machine.specs.Trace.{RowStep, Trace, done, row, HasTrace}
use Rattle.row_machine.specs.Order.{Sound, IsOrder, run}
use Rattle.row_machine.specs.Rounds.{round}
use Rattle.row_machine.specs.Runs.{State, settle, settle_fully, row_state, trace_from, trace_of}
use Rattle.row_machine.proofs.Basics.{true_or_false}
use Rattle.row_machine.proofs.Open.{share, open_weight}
use Rattle.row_machine.proofs.Settling.{settled_at}
use Rattle.row_machine.proofs.Waking.{unstarted, fewer_unstarted}
use Rattle.row_machine.proofs.Orders.{run_settles}

module _ (d : Machine) (sound : Sound d) (qs : List Process) (order : IsOrder d.combs qs) where
  pub one_run : (s : Started) (base : Valuation) → Settled d s base (run s qs base)
  one_run s base =
      let r = settled_at d sound base s in
      let same = run_settles d sound s base r.0 r.1 qs order in
      same ∙ r.1 ∙ (λ i. round d s base (sym same i))

  abbrev Leads : Valuation → Started → State → Type 0
  Leads base s end = Settles d base s end.started end.now

  settle_leads : (n : ℕ) (base : Valuation) (s : Started) → unstarted d s ≤ n → Leads base s (settle d qs n base s)
  settle_leads zero base s le =
      elim (true_or_false (adds d (run s qs base) s)) [
        | inl more ↦ absurd (omega (arith, fewer_unstarted d (run s qs base) s more, le))
        | inr over ↦ ends (one_run s base) over
      ]
  settle_leads (suc n) base s le =
      elim (true_or_false (adds d (run s qs base) s)) [
        | inl more ↦
            subst (λ b. Leads base s (if b then settle d qs n base (woken d (run s qs base) s) else record { started = s; now = run s qs base })) (sym more)
            (goes_on (one_run s base) more (settle_leads n base (woken d (run s qs base) s) (omega (arith, fewer_unstarted d (run s qs base) s more, le))))
        | inr over ↦
            subst (λ b. Leads base s (if b then settle d qs n base (woken d (run s qs base) s) else record { started = s; now = run s qs base })) (sym over)
            (ends (one_run s base) over)
      ]

  share-one : (b : Bool) → share b 1 ≤ 1
  share-one true = omega arith
  share-one false = omega arith

  few : (s : Started) (ps : List Process) → open_weight (λ p. 1) s ps ≤ length ps
  few s [] = omega arith
  few s (p ∷ ps) = omega (arith, share-one (s p), few s ps)

  fully_leads : (base : Valuation) (s : Started) → Leads base s (settle_fully d qs base s)
  fully_leads base s = settle_leads (length d.combs) base s (few s d.combs)

  step_leads : (r last held : Valuation) (s : Started) → RowStep d r last held s (row_state d qs r last held s).started (row_state d qs r last held s).now
  step_leads r last held s =
      let quiet = settle_fully d qs (base_of d r held) s in record {
        quiet = quiet.now;
        started = quiet.started;
        inputs_settle = fully_leads (base_of d r held) s;
        updates_settle = fully_leads (base_of d r (after_edges d last quiet.now)) quiet.started;
      }

  trace_leads : (rows : List Valuation) (last held : Valuation) (s : Started) → Trace d last held s rows (trace_from d qs last held s rows)
  trace_leads [] last held s = done
  trace_leads (r ∷ rows) last held s =
      let next = row_state d qs r last held s in
      row (step_leads r last held s) (trace_leads rows next.now next.now next.started)

  pub runs_trace : (rows : List Valuation) → HasTrace d rows (trace_of d qs rows)
  runs_trace rows = trace_leads rows d.initial d.start at_zero
