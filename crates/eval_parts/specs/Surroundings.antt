-- What signals and locals hold, and a run that goes on.
use Rattle.std.specs.Prelude.{ℕ, ◌-◌, ◌^◌, cond, List, Option, Some, None, slice_index_or}
use Rattle.b4_core.specs.declared.bit.Bit4.{Bit4}
use Rattle.b4_core.specs.declared.bit.Bit4.TheVariants.{X}
use Rattle.sv_types.specs.RowMachine.{Valuation}
use Rattle.sv_types.specs.Surroundings.{Tally, is_signal}

-- a bit of what is held: x where nothing is, which a two-state type stores as 0
abbrev pub held_bit : Option (List Bit4) → ℕ → Bit4
held_bit None k = X
held_bit (Some v) k = slice_index_or v k X

abbrev pub slot : List (Option (List Bit4)) → ℕ → Option (List Bit4)
slot slots n = slice_index_or slots n None

-- signals by their numbers, and locals behind them
abbrev pub now_of : List (Option (List Bit4)) → List (Option (List Bit4)) → Valuation
now_of signals locals q = cond (is_signal q.signal) (held_bit (slot signals q.signal) q.bit) (held_bit (slot locals (q.signal - 2 ^ 32)) q.bit)

-- a run that goes on, and has so many statements left
abbrev pub running : Option ℕ → Tally
running left = record { left = left; stop = None }
