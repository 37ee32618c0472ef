-- The trace by running the processes in an order: what a program computes.
use Rattle.std.specs.Prelude.{ℕ, zero, suc, List, [], ◌∷◌, length, if◌then◌else◌}
use Rattle.row_machine.specs.Valuation.{Valuation}
use Rattle.row_machine.specs.Machine.{Process, Machine, Started, at_zero, base_of, after_edges}
use Rattle.row_machine.specs.Settle.{adds, woken}
use Rattle.row_machine.specs.Order.{run}

-- a started set and a valuation
pub record State : Type 0 where
  pub started : Started
  pub now : Valuation

module _ (d : Machine) (qs : List Process) where
  -- at most n times, the processes are run once, and those that are woken are started
  abbrev pub settle : ℕ → Valuation → Started → State
  settle zero base s = record { started = s; now = run s qs base }
  settle (suc n) base s =
      let again = settle n base (woken d (run s qs base) s) in
      if adds d (run s qs base) s then again else record { started = s; now = run s qs base }

  abbrev pub settle_fully : Valuation → Started → State
  settle_fully base s = settle (length d.combs) base s

  abbrev pub row_state : Valuation → Valuation → Valuation → Started → State
  row_state row last held s =
      let quiet = settle_fully (base_of d row held) s in
      settle_fully (base_of d row (after_edges d last quiet.now)) quiet.started

  abbrev pub trace_from : Valuation → Valuation → Started → List Valuation → List Valuation
  trace_from last held s [] = []
  trace_from last held s (row ∷ rows) =
      let next = row_state row last held s in
      next.now ∷ trace_from next.now next.now next.started rows

  abbrev pub trace_of : List Valuation → List Valuation
  trace_of rows = trace_from d.initial d.start at_zero rows
