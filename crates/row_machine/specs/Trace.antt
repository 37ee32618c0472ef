-- The row step and the trace of a list of rows. Time inside a row isn't seen.
use Rattle.std.specs.Prelude.{◌≡◌, List, [], ◌∷◌}
use Rattle.row_machine.specs.Valuation.{Valuation}
use Rattle.row_machine.specs.Machine.{Machine, Started, at_zero, base_of, after_edges}
use Rattle.row_machine.specs.Settle.{Settled, SettlesBy}

-- One row. `last` is the valuation after the row before, `held` what each bit holds by itself, `s` the started set,
-- `t` and `v` the started set and the valuation after the row.
pub record RowStepBy (IsSettled : Started → Valuation → Valuation → Type 0) (d : Machine) (row last held : Valuation) (s t : Started) (v : Valuation) : Type 0 where
  -- the inputs have the row's values, no edge process has run yet
  pub quiet : Valuation
  pub started : Started
  pub inputs_settle : SettlesBy IsSettled d (base_of d row held) s started quiet
  -- the edge processes have run, and their updates are made
  pub updates_settle : SettlesBy IsSettled d (base_of d row (after_edges d last quiet)) started t v

-- the valuations after each row
pub data TraceBy (IsSettled : Started → Valuation → Valuation → Type 0) (d : Machine) : Valuation → Valuation → Started → List Valuation → List Valuation → Type 0 where
  done : {last held : Valuation} {s : Started} → TraceBy IsSettled d last held s [] []
  row : {r last held v : Valuation} {s t : Started} {rows vs : List Valuation} → RowStepBy IsSettled d r last held s t v → TraceBy IsSettled d v v t rows vs → TraceBy IsSettled d last held s (r ∷ rows) (v ∷ vs)

-- with the settled valuations of the machine
abbrev pub RowStep : Machine → Valuation → Valuation → Valuation → Started → Started → Valuation → Type 0
RowStep d = RowStepBy (Settled d) d

abbrev pub Trace : Machine → Valuation → Valuation → Started → List Valuation → List Valuation → Type 0
Trace d = TraceBy (Settled d) d

-- the valuations are the trace of the rows, from time zero
abbrev pub HasTrace : Machine → List Valuation → List Valuation → Type 0
HasTrace d rows vs = Trace d d.initial d.start at_zero rows vs

-- the rows have exactly one trace
pub record OneTrace (d : Machine) (rows : List Valuation) : Type 0 where
  pub trace : List Valuation
  pub is_trace : HasTrace d rows trace
  pub only : (vs : List Valuation) → HasTrace d rows vs → vs ≡ trace
