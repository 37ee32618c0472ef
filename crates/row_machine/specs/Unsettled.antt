-- Rows on which a machine that is run by rounds doesn't settle.
use Rattle.std.specs.Prelude.{◌≡◌, ℕ, zero, suc, ◌<◌, true, List, ◌∷◌}
use Rattle.row_machine.specs.Valuation.{Valuation}
use Rattle.row_machine.specs.Machine.{Machine, Started, at_zero, base_of, after_edges}
use Rattle.row_machine.specs.Settle.{SettlesBy, adds, woken}
use Rattle.row_machine.specs.Trace.{RowStepBy}
use Rattle.row_machine.specs.Rounds.{round_limit, Reaches, ChangesABit}

-- each round up to the limit changes a bit
abbrev pub NeverRests : Machine → Started → Valuation → Type 0
NeverRests d s base = (n : ℕ) → n < round_limit d → ChangesABit d s base n

-- settling from the first started set comes to the second one, over which the rounds don't come to rest
pub data SettlingFails (d : Machine) (base : Valuation) : Started → Started → Type 0 where
  fails : {s : Started} → NeverRests d s base → SettlingFails d base s s
  fails_later : {s t : Started} {v : Valuation} → Reaches d s base v → adds d v s ≡ true → SettlingFails d base (woken d v s) t → SettlingFails d base s t

-- The rows up to some number settle, and in the row with that number (the first is 0) a settling fails,
-- over a started set and a base.
pub data UnsettledFrom (d : Machine) : Valuation → Valuation → Started → List Valuation → ℕ → Started → Valuation → Type 0 where
  by_inputs : {r last held : Valuation} {s t : Started} {rows : List Valuation} → SettlingFails d (base_of d r held) s t
      → UnsettledFrom d last held s (r ∷ rows) zero t (base_of d r held)
  by_updates : {r last held quiet : Valuation} {s u t : Started} {rows : List Valuation} → SettlesBy (Reaches d) d (base_of d r held) s u quiet
      → SettlingFails d (base_of d r (after_edges d last quiet)) u t
      → UnsettledFrom d last held s (r ∷ rows) zero t (base_of d r (after_edges d last quiet))
  in_later_row : {r last held v base : Valuation} {s u t : Started} {rows : List Valuation} {k : ℕ} → RowStepBy (Reaches d) d r last held s u v
      → UnsettledFrom d v v u rows k t base → UnsettledFrom d last held s (r ∷ rows) (suc k) t base

-- the row, the started set and the base of the settling that fails, from time zero
abbrev pub Unsettled : Machine → List Valuation → ℕ → Started → Valuation → Type 0
Unsettled d rows = UnsettledFrom d d.initial d.start at_zero rows
