-- Rows have a trace by rounds, or a first settling that fails, and not both.
use Rattle.std.proofs.Common.{◌≡◌, ℕ, zero, suc, ◌≤◌, ◌⊎◌, List, [], ◌∷◌, refl, ap, ◌∙◌, subst, inl, inr, arith}
use Rattle.row_machine.specs.Valuation.{Valuation, Member}
use Rattle.row_machine.specs.Machine.{Process, Machine, Started, base_of, after_edges}
use Rattle.row_machine.specs.Settle.{SettlesBy, ends, goes_on, adds, woken}
use Rattle.row_machine.specs.Trace.{RowStepBy, TraceBy, done, row}
use Rattle.row_machine.specs.Order.{WritesOwn}
use Rattle.row_machine.specs.Rounds.{Reaches}
use Rattle.row_machine.specs.Unsettled.{SettlingFails, fails, fails_later, UnsettledFrom, by_inputs, by_updates, in_later_row}
use Rattle.row_machine.proofs.Basics.{true_or_false, clash}
use Rattle.row_machine.proofs.Unique.{settles_once, step_once}
use Rattle.row_machine.proofs.Waking.{unstarted, fewer_unstarted}
use Rattle.row_machine.proofs.RoundTraces.{reached_once}
use Rattle.row_machine.proofs.RoundsEnd.{reached_or_changing, not_both}

module _ (d : Machine) where
  abbrev Settling : Valuation → Started → Started → Valuation → Type 0
  Settling base s t v = SettlesBy (Reaches d) d base s t v

  same_start : (base : Valuation) (s t : Started) (v w : Valuation) → Reaches d s base v → Reaches d s base w → SettlingFails d base (woken d w s) t → SettlingFails d base (woken d v s) t
  same_start base s t v w a b rest = subst (λ x. SettlingFails d base (woken d x s) t) (reached_once d s base v w a b) rest

  same_adds : (base : Valuation) (s : Started) (v w : Valuation) → Reaches d s base v → Reaches d s base w → adds d v s ≡ adds d w s
  same_adds base s v w a b = ap (λ x. adds d x s) (reached_once d s base w v b a)

  not_failing : {base : Valuation} {s t u : Started} {v : Valuation} → Settling base s t v → SettlingFails d base s u → ⊥
  not_failing {base = base} {s = s} (ends {v = v} a over) (fails never) = not_both d s base v a never
  not_failing {base = base} {s = s} (ends {v = v} a over) (fails_later {v = w} b more rest) = clash (adds d w s) more (same_adds base s w v b a ∙ over)
  not_failing {base = base} {s = s} (goes_on {v = v} a more rest) (fails never) = not_both d s base v a never
  not_failing {base = base} {s = s} (goes_on {v = v} a more rest) (fails_later {t = u} {v = w} b more' rest') =
      not_failing rest (same_start base s u v w a b rest')

  fails_once : {base : Valuation} {s t u : Started} → SettlingFails d base s t → SettlingFails d base s u → u ≡ t
  fails_once (fails never) (fails never') = refl
  fails_once {base = base} {s = s} (fails never) (fails_later {v = w} b more rest) = absurd (not_both d s base w b never)
  fails_once {base = base} {s = s} (fails_later {v = v} a more rest) (fails never) = absurd (not_both d s base v a never)
  fails_once {base = base} {s = s} (fails_later {v = v} a more rest) (fails_later {t = u} {v = w} b more' rest') =
      fails_once rest (same_start base s u v w a b rest')

  -- where the first settling of a row ends, the second starts in one way
  second_start : (r last held quiet quiet' : Valuation) (s u u' t : Started) → Settling (base_of d r held) s u quiet → Settling (base_of d r held) s u' quiet'
      → SettlingFails d (base_of d r (after_edges d last quiet')) u' t → SettlingFails d (base_of d r (after_edges d last quiet)) u t
  second_start r last held quiet quiet' s u u' t a b failing =
      let same = settles_once (Reaches d) (reached_once d) d a b in
      subst (λ (x : Valuation). SettlingFails d (base_of d r (after_edges d last x)) u t) same.1
      (subst (λ (x : Started). SettlingFails d (base_of d r (after_edges d last quiet')) x t) same.0 failing)

  abbrev StepBy : Valuation → Valuation → Valuation → Started → Started → Valuation → Type 0
  StepBy r last held s t v = RowStepBy (Reaches d) d r last held s t v

  -- a later row starts in one way
  later_start : (r last held v w : Valuation) (s t u : Started) (rows : List Valuation) (k : ℕ) (z : Started) (base : Valuation) → StepBy r last held s t v → StepBy r last held s u w
      → UnsettledFrom d w w u rows k z base → UnsettledFrom d v v t rows k z base
  later_start r last held v w s t u rows k z base a b failing =
      let same = step_once (Reaches d) (reached_once d) d r last held s t u v w a b in
      subst (λ (x : Valuation). UnsettledFrom d x x t rows k z base) same.1 (subst (λ (x : Started). UnsettledFrom d w w x rows k z base) same.0 failing)

  -- a row that settles doesn't fail
  step_settles : (r last held quiet v : Valuation) (s t u z : Started) → StepBy r last held s t v → Settling (base_of d r held) s u quiet → SettlingFails d (base_of d r (after_edges d last quiet)) u z → ⊥
  step_settles r last held quiet v s t u z a settling failing =
      not_failing a.updates_settle (second_start r last held a.quiet quiet s a.started u z a.inputs_settle settling failing)

  pub not_unsettled : {last held base : Valuation} {s t : Started} {rows vs : List Valuation} {k : ℕ} → TraceBy (Reaches d) d last held s rows vs → UnsettledFrom d last held s rows k t base → ⊥
  not_unsettled done failing = elim failing [ ]
  not_unsettled (row a rest) (by_inputs failing) = not_failing a.inputs_settle failing
  not_unsettled (row {r = r} {last = last} {held = held} {v = v} {s = s} {t = t} a rest) (by_updates {quiet = quiet} {u = u} {t = z} settling failing) =
      step_settles r last held quiet v s t u z a settling failing
  not_unsettled (row {r = r} {last = last} {held = held} {v = v} {s = s} {t = t} {rows = rows} a rest) (in_later_row {v = w} {base = base} {u = u} {t = z} {k = k} b failing) =
      not_unsettled rest (later_start r last held v w s t u rows k z base a b failing)

  abbrev Same : ℕ → ℕ → Started → Started → Valuation → Valuation → Type 0
  Same k j t u base base' = (j ≡ k) × (u ≡ t) × (base' ≡ base)

  pub unsettled_once : {last held base base' : Valuation} {s t u : Started} {rows : List Valuation} {k j : ℕ}
      → UnsettledFrom d last held s rows k t base → UnsettledFrom d last held s rows j u base' → Same k j t u base base'
  unsettled_once (by_inputs f) (by_inputs g) = (refl, fails_once f g, refl)
  unsettled_once (by_inputs f) (by_updates settling g) = absurd (not_failing settling f)
  unsettled_once (by_inputs f) (in_later_row b g) = absurd (not_failing b.inputs_settle f)
  unsettled_once (by_updates settling f) (by_inputs g) = absurd (not_failing settling g)
  unsettled_once (by_updates {r = r} {last = last} {held = held} {quiet = quiet} {s = s} {u = u} {t = t} a f) (by_updates {quiet = quiet'} {u = u'} {t = t'} b g) =
      let same = settles_once (Reaches d) (reached_once d) d a b in
      (refl, fails_once f (second_start r last held quiet quiet' s u u' t' a b g), λ i. base_of d r (after_edges d last (same.1 i)))
  unsettled_once (by_updates {r = r} {last = last} {held = held} {quiet = quiet} {s = s} {u = u} {t = z} a f) (in_later_row {v = v} {u = t} b g) =
      absurd (step_settles r last held quiet v s t u z b a f)
  unsettled_once (in_later_row b g) (by_inputs f) = absurd (not_failing b.inputs_settle f)
  unsettled_once (in_later_row {v = v} {u = t} b g) (by_updates {r = r} {last = last} {held = held} {quiet = quiet} {s = s} {u = u} {t = z} a f) =
      absurd (step_settles r last held quiet v s t u z b a f)
  unsettled_once (in_later_row {r = r} {last = last} {held = held} {v = v} {s = s} {u = t} {rows = rows} a f) (in_later_row {v = w} {base = base'} {u = u} {t = z} {k = k} b g) =
      let same = unsettled_once f (later_start r last held v w s t u rows k z base' a b g) in
      (ap suc same.0, same.1, same.2)

  module _ (own : (p : Process) → Member d.combs p → WritesOwn p) where
    abbrev SettledOrFails : Valuation → Started → Type 0
    SettledOrFails base s = ((t : Started) × (v : Valuation) × Settling base s t v) ⊎ ((t : Started) × SettlingFails d base s t)

    settles_or_fails : (n : ℕ) (base : Valuation) (s : Started) → unstarted d s ≤ n → SettledOrFails base s
    settles_or_fails zero base s le =
        elim (reached_or_changing d own s base) [
          | inr never ↦ inr (s, fails never)
          | inl a ↦ elim (true_or_false (adds d a.0 s)) [
            | inl more ↦ absurd (omega (arith, fewer_unstarted d a.0 s more, le))
            | inr over ↦ inl (s, a.0, ends a.1 over)
          ]
        ]
    settles_or_fails (suc n) base s le =
        elim (reached_or_changing d own s base) [
          | inr never ↦ inr (s, fails never)
          | inl a ↦ elim (true_or_false (adds d a.0 s)) [
            | inl more ↦ elim (settles_or_fails n base (woken d a.0 s) (omega (arith, fewer_unstarted d a.0 s more, le))) [
              | inl b ↦ inl (b.0, b.1, goes_on a.1 more b.2)
              | inr b ↦ inr (b.0, fails_later a.1 more b.1)
            ]
            | inr over ↦ inl (s, a.0, ends a.1 over)
          ]
        ]

    settling : (base : Valuation) (s : Started) → SettledOrFails base s
    settling base s = settles_or_fails (unstarted d s) base s (omega arith)

    abbrev TracedOrUnsettled : Valuation → Valuation → Started → List Valuation → Type 0
    TracedOrUnsettled last held s rows = ((vs : List Valuation) × TraceBy (Reaches d) d last held s rows vs) ⊎ ((k : ℕ) × (t : Started) × (base : Valuation) × UnsettledFrom d last held s rows k t base)

    pub traced_or_unsettled : (rows : List Valuation) (last held : Valuation) (s : Started) → TracedOrUnsettled last held s rows
    traced_or_unsettled [] last held s = inl ([], done)
    traced_or_unsettled (r ∷ rows) last held s =
        elim (settling (base_of d r held) s) [
          | inr f ↦ inr (0, f.0, base_of d r held, by_inputs f.1)
          | inl a ↦ elim (settling (base_of d r (after_edges d last a.1)) a.0) [
            | inr f ↦ inr (0, f.0, base_of d r (after_edges d last a.1), by_updates a.2 f.1)
            | inl b ↦ elim (traced_or_unsettled rows b.1 b.1 b.0) [
              | inl vs ↦ inl (b.1 ∷ vs.0, row (record { quiet = a.1; started = a.0; inputs_settle = a.2; updates_settle = b.2 }) vs.1)
              | inr f ↦ inr (suc f.0, f.1, f.2, in_later_row (record { quiet = a.1; started = a.0; inputs_settle = a.2; updates_settle = b.2 }) f.3)
            ]
          ]
        ]
