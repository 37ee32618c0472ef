-- A sound machine has exactly one trace for any rows.
use Rattle.std.proofs.Common.{◌≡◌, List, [], ◌∷◌}
use Rattle.row_machine.specs.Valuation.{Valuation}
use Rattle.row_machine.specs.Machine.{Machine, Started, at_zero, base_of, after_edges}
use Rattle.row_machine.specs.Settle.{Settled}
use Rattle.row_machine.specs.Trace.{RowStep, Trace, done, row, OneTrace}
use Rattle.row_machine.specs.Order.{Sound}
use Rattle.row_machine.proofs.Settled.{settled_once}
use Rattle.row_machine.proofs.Settling.{settles}
use Rattle.row_machine.proofs.Unique.{trace_once}

module _ (d : Machine) (sound : Sound d) where
  pub steps : (r last held : Valuation) (s : Started) → (t : Started) × (v : Valuation) × RowStep d r last held s t v
  steps r last held s =
      let first = settles d sound (base_of d r held) s in
      let second = settles d sound (base_of d r (after_edges d last first.1)) first.0 in
      (second.0, second.1, record { quiet = first.1; started = first.0; inputs_settle = first.2; updates_settle = second.2 })

  pub has_trace : (rows : List Valuation) (last held : Valuation) (s : Started) → (vs : List Valuation) × Trace d last held s rows vs
  has_trace [] last held s = ([], done)
  has_trace (r ∷ rows) last held s =
      let one = steps r last held s in
      let rest = has_trace rows one.1 one.1 one.0 in
      (one.1 ∷ rest.0, row one.2 rest.1)

  pub traces_alike : {last held : Valuation} {s : Started} {rows vs us : List Valuation} → Trace d last held s rows vs → Trace d last held s rows us → us ≡ vs
  traces_alike a b = trace_once (Settled d) (λ s base v u x y. settled_once d sound s base u v y x) d a b

  pub one_trace : (rows : List Valuation) → OneTrace d rows
  one_trace rows =
      let r = has_trace rows d.initial d.start at_zero in
      record { trace = r.0; is_trace = r.1; only = λ us t. traces_alike r.1 t }
