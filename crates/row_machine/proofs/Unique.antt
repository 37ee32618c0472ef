-- Where a notion of settled has one valuation over a base and a started set, rows have at most one trace by it.
use Rattle.std.proofs.Common.{◌≡◌, List, ◌∷◌, refl, ap, ◌∙◌, subst}
use Rattle.row_machine.specs.Valuation.{Valuation}
use Rattle.row_machine.specs.Machine.{Machine, Started, base_of, after_edges}
use Rattle.row_machine.specs.Settle.{SettlesBy, ends, goes_on, woken, adds}
use Rattle.row_machine.specs.Trace.{RowStepBy, TraceBy, done, row}
use Rattle.row_machine.proofs.Basics.{clash}

module _ (IsSettled : Started → Valuation → Valuation → Type 0) (once : (s : Started) (base v u : Valuation) → IsSettled s base v → IsSettled s base u → u ≡ v) (d : Machine) where
  pub settles_once : {base : Valuation} {s t u : Started} {v w : Valuation} → SettlesBy IsSettled d base s t v → SettlesBy IsSettled d base s u w → (u ≡ t) × (w ≡ v)
  settles_once {base = base} {s = s} (ends {v = v} a over) (ends {v = w} b over') = (refl, once s base v w a b)
  settles_once {base = base} {s = s} (ends {v = v} a over) (goes_on {v = w} b more rest) =
      clash (adds d w s) more (ap (λ x. adds d x s) (once s base v w a b) ∙ over)
  settles_once {base = base} {s = s} (goes_on {v = v} a more rest) (ends {v = w} b over) =
      clash (adds d w s) (ap (λ x. adds d x s) (once s base v w a b) ∙ more) over
  settles_once {base = base} {s = s} (goes_on {v = v} {w = z} a more rest) (goes_on {t = u} {v = w} {w = y} b more' rest') =
      settles_once rest (subst (λ x. SettlesBy IsSettled d base (woken d x s) u y) (once s base v w a b) rest')

  pub step_once : (r last held : Valuation) (s t u : Started) (v w : Valuation) → RowStepBy IsSettled d r last held s t v → RowStepBy IsSettled d r last held s u w → (u ≡ t) × (w ≡ v)
  step_once r last held s t u v w a b =
      let first = settles_once a.inputs_settle b.inputs_settle in
      settles_once a.updates_settle
      (subst (λ (x : Valuation). SettlesBy IsSettled d (base_of d r (after_edges d last x)) a.started u w) first.1
      (subst (λ (x : Started). SettlesBy IsSettled d (base_of d r (after_edges d last b.quiet)) x u w) first.0 b.updates_settle))

  pub trace_once : {last held : Valuation} {s : Started} {rows vs us : List Valuation} → TraceBy IsSettled d last held s rows vs → TraceBy IsSettled d last held s rows us → us ≡ vs
  trace_once done done = refl
  trace_once (row {r = r} {last = last} {held = held} {v = v} {s = s} {t = t} {rows = rows} {vs = vs} a rest) (row {v = w} {t = u} {vs = us} b rest') =
      let same = step_once r last held s t u v w a b in
      let moved = subst (λ (x : Valuation). TraceBy IsSettled d x x t rows us) same.1 (subst (λ (x : Started). TraceBy IsSettled d w w x rows us) same.0 rest') in
      λ i. same.1 i ∷ trace_once rest moved i
