-- What signals and locals hold, as a valuation.
use Rattle.std.specs.Prelude.{ℕ, ◌-◌, ◌^◌, ◌==◌, cond, List, [], ◌∷◌, Option, Some, None, slice_index_or}
use Rattle.b4_core.specs.declared.bit.Bit4.{Bit4}
use Rattle.b4_core.specs.declared.bit.Bit4.TheVariants.{X}
use Rattle.row_machine.specs.Valuation.{Valuation}
use Rattle.v_meaning.specs.Scopes.{is_signal}
use Rattle.v_eval.specs.declared.held.Held.{Held}
use Rattle.v_eval.specs.declared.held.Slot.{Slot}

-- what the one with a number of these holds
abbrev pub slot_of : List (List Bit4) → ℕ → List Bit4
slot_of slots n = slice_index_or slots n []

-- what the signal with a number holds, where some hold something else by now
abbrev pub signal_bits : List (List Bit4) → List Slot → ℕ → List Bit4
signal_bits signals [] n = slot_of signals n
signal_bits signals (o ∷ os) n = cond (o.number == n) o.bits (signal_bits signals os n)

abbrev pub bits_in : List (List Bit4) → List Slot → List (List Bit4) → ℕ → List Bit4
bits_in signals over locals n = cond (is_signal n) (signal_bits signals over n) (slot_of locals (n - 2 ^ 32))

-- signals by their numbers, and locals behind them; a bit that isn't there is x
abbrev pub holding : List (List Bit4) → List Slot → List (List Bit4) → Valuation
holding signals over locals q = slice_index_or (bits_in signals over locals q.signal) q.bit X

abbrev pub bit_in : Held → ℕ → List Bit4
bit_in h n = bits_in h.signals.now h.over.now h.locals.now n

abbrev pub holds : Held → Valuation
holds h = holding h.signals.now h.over.now h.locals.now

-- a bit of these, x where there is none
abbrev pub bit_or_x : List Bit4 → Option ℕ → Bit4
bit_or_x bits None = X
bit_or_x bits (Some k) = slice_index_or bits k X
